-- The joined answer: each atom's bit is that of the model of its predicate's part. And a ticket of one part, which is run as it is.
use Prim.Native.Nat.{ℕ, zero, suc, ◌^◌, ◌<◌}
use mathlib.Core.Bool.{Bool, false}
use mathlib.Core.List.{List, [], ◌∷◌, map}
use mathlib.Core.Logic.{◌⊎◌, inl, inr}
use mathlib.Core.Path.{◌≡◌, refl, sym, ap, subst, ◌∙◌}
use native.Mathlib.Omega.{arith}
use lib.ListN.{length, get_or}
use Rattle.lists.specs.Digits.{horner}
use Rattle.lists.specs.Key.{nat_key}
use Rattle.lists.specs.Member.{Any, In}
use Rattle.lists.proofs.Bytes.{tabulate_of}
use Rattle.lists.proofs.Digits.{horner_below}
use Rattle.lists.proofs.Tabulate.{tabulate-length, tabulate_at}
use Rattle.search.specs.Machine.{Outcome, Satisfied, Refuted, Exhausted}
use Rattle.search.proofs.Theorems.{theorems as walks}
use Rattle.problem.specs.Problem.{Problem, Fits, limit_of, atom_count}
use Rattle.problem.proofs.Access.{atoms_upto}
use Rattle.ground.specs.Instance.{GroundAtom, ground_number, ground_of}
use Rattle.ground.proofs.Instances.{atoms_are, number_onto}
use Rattle.parting.specs.declared.parts.Parting.TheVariants as parting
use Rattle.parting.specs.Parts.{family, part_of, parts_of}
use Rattle.parting.specs.Runs.{find_by, run_by, up_to_refuted, runs_of, said_by, sum_of, bits_of, predicate_at, joined_bits}
use Rattle.parting.specs.Listed.{BitsJoined, RunWhole}
use Rattle.parting.proofs.FamilyLaws.{part_same}
use Rattle.parting.proofs.MarkLaws.{predicate_is}
use Rattle.parting.proofs.ClaimPlaceLaws.{run}
use Rattle.parting.proofs.ClaimFitLaws.{part_fits}
use Rattle.parting.proofs.ClaimWalkLaws.{sound}
use Rattle.parting.proofs.ListedLaws.{part_listed}

-- ---- numbers of atoms and of bits

number_small : (q : Problem) (r : ℕ) (args : List ℕ) → GroundAtom q.constants q.arities r args → ground_number q.constants q.arities r args < atom_count q.constants q.arities
number_small q r args g =
    let c = q.constants in
    let under : horner c args < c ^ get_or q.arities r 0 = subst (λ (w : ℕ). horner c args < c ^ w) g.arity (horner_below c args g.below) in
    omega (arith, atoms_upto c q.arities r g.known, under)

-- a model has a bit for each atom
bits_size : (magic : Bool) (p : Problem) → Fits p → (n : ℕ) (bits : List Bool) → run_by magic p ≡ Satisfied n bits → length bits ≡ atom_count p.constants p.arities
unfolding run_by
bits_size magic p f n bits e = ((walks.sound_walk (ground_of p) (find_by magic p) (sound p f magic)).satisfied (limit_of p.limit) n bits e).0 ∙ atoms_are p

-- so that it does not matter what is read where there is none
get_d_any : (bits : List Bool) (a : ℕ) (d e : Bool) → a < length bits → get_or bits a d ≡ get_or bits a e
get_d_any [] a d e h = absurd (omega arith)
get_d_any (b ∷ bits) zero d e h = refl
get_d_any (b ∷ bits) (suc a) d e h = get_d_any bits a d e (omega arith)

-- ---- the joined bits

module _ (magic : Bool) (q : Problem) (f : Fits q) where
  abbrev atoms : ℕ
  atoms = atom_count q.constants q.arities

  abbrev bit_at : ℕ → Bool
  bit_at a = get_or (bits_of (run_by magic (part_of q (predicate_at q a)))) a false

  joined_size : length (joined_bits magic q) ≡ atom_count q.constants q.arities
  unfolding joined_bits
  joined_size = tabulate-length bit_at atoms

  joined_at : (a : ℕ) (d : Bool) → a < atom_count q.constants q.arities → get_or (joined_bits magic q) a d ≡ get_or (bits_of (run_by magic (part_of q (predicate_at q a)))) a false
  unfolding joined_bits
  joined_at a d l = tabulate_at bit_at d atoms a l

  part_size : (p n : ℕ) (bits : List Bool) → run_by magic (part_of q p) ≡ Satisfied n bits → length bits ≡ atom_count q.constants q.arities
  part_size p n bits e =
      let part = (part_listed q p).part in
      bits_size magic (part_of q p) (part_fits q f p) n bits e
      ∙ ap (λ (c : ℕ). atom_count c (part_of q p).arities) part.constants
      ∙ ap (λ (ws : List ℕ). atom_count q.constants ws) part.arities

  each : (p r : ℕ) (args : List ℕ) → In nat_key (family q p) r → GroundAtom q.constants q.arities r args
      → (n : ℕ) (bits : List Bool) → run_by magic (part_of q p) ≡ Satisfied n bits
      → (d : Bool) → get_or (joined_bits magic q) (ground_number q.constants q.arities r args) d ≡ get_or bits (ground_number q.constants q.arities r args) d
  each p r args h g n bits e d =
      let a : ℕ = ground_number q.constants q.arities r args in
      let small = number_small q r args g in
      let part : part_of q (predicate_at q a) ≡ part_of q p = ap (part_of q) (predicate_is q r args g) ∙ sym (part_same q p r h) in
      joined_at a d small
      ∙ ap (λ (x : Problem). get_or (bits_of (run_by magic x)) a false) part
      ∙ ap (λ (o : Outcome). get_or (bits_of o) a false) e
      ∙ get_d_any bits a false d (omega (arith, part_size p n bits e, small))

  pub bits_joined : BitsJoined magic q
  bits_joined = record { one_part = λ p r h. sym (part_same q p r h); size = joined_size; each = each }

  -- ---- one part

  module _ (whole : parts_of q ≡ q ∷ []) where
    part_whole : (r : ℕ) → r < length q.arities → part_of q r ≡ q
    part_whole r h = only_one (subst (Any (λ (p : Problem). p ≡ part_of q r)) whole (run q r h))
      where
        only_one : (q ≡ part_of q r) ⊎ ⊥ → part_of q r ≡ q
        only_one (inl e) = sym e
        only_one (inr e) = absurd e

    one_run : runs_of magic q ≡ run_by magic q ∷ []
    unfolding runs_of
    one_run = ap (λ (ps : List Problem). up_to_refuted (map (run_by magic) ps)) whole ∙ alone (run_by magic q)
      where
        alone : (o : Outcome) → up_to_refuted (o ∷ []) ≡ o ∷ []
        alone (Satisfied n bits) = refl
        alone (Refuted n) = refl
        alone (Exhausted n) = refl

    joined_whole : (n : ℕ) (bits : List Bool) → run_by magic q ≡ Satisfied n bits → joined_bits magic q ≡ bits
    unfolding joined_bits
    joined_whole n bits e = tabulate_of bit_at false bits atoms (sym (bits_size magic q f n bits e)) at
      where
        at : (a : ℕ) → a < length bits → bit_at a ≡ get_or bits a false
        at a l =
            let small : a < atom_count q.constants q.arities = omega (arith, bits_size magic q f n bits e) in
            let of = number_onto q.constants q.arities a small in
            let same : predicate_at q a ≡ of.pred = ap (predicate_at q) (sym of.numbered) ∙ predicate_is q of.pred of.args of.atom in
            ap (λ (x : Problem). get_or (bits_of (run_by magic x)) a false) (ap (part_of q) same ∙ part_whole of.pred of.atom.known)
            ∙ ap (λ (o : Outcome). get_or (bits_of o) a false) e

    runs_are : (o : Outcome) → run_by magic q ≡ o → runs_of magic q ≡ o ∷ []
    runs_are o e = one_run ∙ ap (λ (x : Outcome). x ∷ []) e

    pub run_whole : RunWhole magic q
    run_whole =
        record {
          satisfied = λ n bits e. (ap said_by (runs_are (Satisfied n bits) e), ap sum_of (runs_are (Satisfied n bits) e) ∙ omega arith, joined_whole n bits e);
          refuted = λ n e. (ap said_by (runs_are (Refuted n) e), ap sum_of (runs_are (Refuted n) e) ∙ omega arith);
          exhausted = λ n e. (ap said_by (runs_are (Exhausted n) e), ap sum_of (runs_are (Exhausted n) e) ∙ omega arith);
        }
