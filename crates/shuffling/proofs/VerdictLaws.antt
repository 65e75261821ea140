-- What a verdict says of the problem lent, whichever engine gives it, and that two verdicts on a problem and on the problem shuffled do not contradict.
use Prim.Native.Nat.{ℕ}
use mathlib.Core.List.{List}
use mathlib.Core.Logic.{◌⊎◌, inl, inr}
use mathlib.Core.Path.{◌≡◌, sym, subst}
use native.Mathlib.Omega.{arith}
use lib.Dec.{T}
use Rattle.lists.specs.Bytes.{is_set}
use Rattle.search.specs.Ground.{Found, Model, Marked}
use Rattle.search.specs.Machine.{Outcome, Satisfied, Refuted, Exhausted, outcome}
use Rattle.search.specs.Sound.{SoundFind}
use Rattle.search.proofs.Theorems.{theorems as walks}
use Rattle.problem.specs.Problem.{Problem, Fits}
use Rattle.ground.specs.Instance.{Instance, ground_of}
use Rattle.ground.specs.declared.verdict.Verdict.{Verdict}
use Rattle.ground.specs.declared.verdict.Verdict.TheVariants.{Refused, Satisfied as IsSatisfied, Refuted as IsRefuted}
use Rattle.ground.specs.Verdict.{verdict_of}
use Rattle.judging.specs.Demand2.{Demand2}
use Rattle.staged.specs.Claims.{Contradict}
use Rattle.shuffling.specs.Shuffled.{Shuffled}
use Rattle.shuffling.specs.Claims.{HasModel}
use Rattle.shuffling.proofs.MoveLaws.{models_move}

-- satisfied only with a model, refuted only without any, and both of a well-formed problem alone
pub record Right (q : Problem) (v : Verdict) : Type 1 where
  pub satisfied : (n : ℕ) → v ≡ IsSatisfied n → Fits q × HasModel q
  pub refuted : (n : ℕ) → v ≡ IsRefuted n → Fits q × (HasModel q → ⊥)

module _ (q : Problem) (v : Verdict) where
  Right-Refused : (e : ℕ) → v ≡ Refused e → Right q v
  Right-Refused e r =
      record {
        satisfied = λ n s. absurd (let z : ◌≡◌ {A = ℕ} 0 1 = cc in omega arith);
        refuted = λ n s. absurd (let z : ◌≡◌ {A = ℕ} 0 1 = cc in omega arith);
      }

  right_taken : (find : List ℕ → Found Instance) (limit : ℕ) (tb left : List ℕ) → Fits q → Demand2 find (ground_of q) limit tb v left → Right q v
  right_taken find limit tb left fits d =
      record {
        satisfied = λ n e. (fits, (λ a. T (is_set left a), d.model n e));
        refuted = λ n e. (fits, λ m. d.no_model n e m.0 m.1);
      }

  -- the verdict of an engine that keeps demand 2 where it takes a call, and refuses every other
  pub right : (Taken : Type 0) → Taken ⊎ (v ≡ Refused 11) ⊎ (v ≡ Refused 31) → (find : List ℕ → Found Instance) (limit : ℕ) (tb left : List ℕ) → (Taken → Fits q)
      → (Taken → Demand2 find (ground_of q) limit tb v left) → Right q v
  right Taken (inl t) find limit tb left fits demand_2 = right_taken find limit tb left (fits t) (demand_2 t)
  right Taken (inr (inl r)) find limit tb left fits demand_2 = Right-Refused 11 r
  right Taken (inr (inr r)) find limit tb left fits demand_2 = Right-Refused 31 r

pub never_contradict : (q r : Problem) → Shuffled q r → (v w : Verdict) → Right q v → Right r w → Contradict v w → ⊥
never_contradict q r s v w f g (n, (m, c)) = go c
  where
    go : ((v ≡ IsSatisfied n) × (w ≡ IsRefuted m)) ⊎ ((v ≡ IsRefuted n) × (w ≡ IsSatisfied m)) → ⊥
    go (inl (d, e)) = let here = f.satisfied n d in (g.refuted m e).1 ((models_move q r here.0 s).0 here.1)
    go (inr (d, e)) = let here = f.refuted n d in here.1 ((models_move q r here.0 s).1 (g.satisfied m e).1)

-- two verdicts on one ground problem
pub never_apart : (q r : Problem) → ground_of q ≡ ground_of r → (v w : Verdict) → Right q v → Right r w → Contradict v w → ⊥
never_apart q r same v w f g (n, (m, c)) = go c
  where
    go : ((v ≡ IsSatisfied n) × (w ≡ IsRefuted m)) ⊎ ((v ≡ IsRefuted n) × (w ≡ IsSatisfied m)) → ⊥
    go (inl (d, e)) = let model = (f.satisfied n d).1 in (g.refuted m e).1 (model.0, subst (λ p. Model p model.0) same model.1)
    go (inr (d, e)) = let model = (g.satisfied m e).1 in (f.refuted n d).1 (model.0, subst (λ p. Model p model.0) (sym same) model.1)

-- the outcome of a sound walk
module _ (q : Problem) (fits : Fits q) (find : List ℕ → Found Instance) (sound : SoundFind (ground_of q) find) (limit : ℕ) where
  pub Outcome-Right : (o : Outcome) → outcome find limit ≡ o → Right q (verdict_of o)
  Outcome-Right (Satisfied n bits) e =
      record {
        satisfied = λ m s. (fits, (Marked bits, ((walks.sound_walk (ground_of q) find sound).satisfied limit n bits e).1));
        refuted = λ m s. absurd (let z : ◌≡◌ {A = ℕ} 0 1 = cc in omega arith);
      }
  Outcome-Right (Refuted n) e =
      record {
        satisfied = λ m s. absurd (let z : ◌≡◌ {A = ℕ} 0 1 = cc in omega arith);
        refuted = λ m s. (fits, λ model. (walks.sound_walk (ground_of q) find sound).refuted limit n e model.0 model.1);
      }
  Outcome-Right (Exhausted n) e =
      record {
        satisfied = λ m s. absurd (let z : ◌≡◌ {A = ℕ} 0 1 = cc in omega arith);
        refuted = λ m s. absurd (let z : ◌≡◌ {A = ℕ} 0 1 = cc in omega arith);
      }
