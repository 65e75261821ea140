-- The split that a kept path enters an alternative of has all alternatives of its site: whatever rule it is of, the rule gives those of the site's clause.
use Prim.Native.Nat.{ℕ, suc, ◌<◌}
use mathlib.Core.Bool.{Bool, true, false, cond, not, ◌&&◌}
use mathlib.Core.List.{List, ◌∷◌, ◌++◌}
use mathlib.Core.Path.{◌≡◌, refl, sym, ap, subst, ◌∙◌}
use native.Mathlib.Omega.{arith}
use lib.Dec.{T, ltb}
use lib.ListN.{length, get_or}
use Rattle.lists.specs.Member.{All, every}
use Rattle.lists.specs.Tabulate.{tabulate}
use Rattle.lists.specs.Test.{T_left}
use Rattle.lists.proofs.Bytes.{all_at}
use Rattle.lists.proofs.Member.{all_map, all_mapped, all_flat, first-some}
use Rattle.lists.proofs.Tabulate.{All-tabulate}
use Rattle.search.specs.Ground.{split, disjunctive}
use Rattle.search.specs.Relevancy.{branches}
use Rattle.search.specs.Magic.{Magic, tru, MagicRule, heads_of, holds, ready}
use Rattle.search.specs.Machine.{entered}
use Rattle.search.proofs.Found.{find_m-split}
use Rattle.problem.specs.Problem.{Atom, Clause, Problem}
use Rattle.ground.specs.Instance.{Instance, clause_of}
use Rattle.ground.specs.Names.{instance_key}
use Rattle.rewriting.specs.Rules.{RuleGives, onward, alternatives, MagicClause, no_atom, gives_of, rule_of, clause_rules, rewriting_of}
use Rattle.rewriting.specs.RulesLayout.{rules_layout}
use Rattle.rewriting.specs.Facts.{false_in, magic_in, find_in}
use Rattle.rewriting.specs.terms.Ruled.{Ruled, rule_count, the_rule}
use Rattle.rewriting.specs.terms.Numbered.{head_numbers}
use Rattle.rewriting.proofs.LayoutLaws.{no_rule, counted}
use Rattle.magic_rule.specs.terms.Choosing.{site_of, heads_by, rule_heads, RuleSite, ListedSite}
use Rattle.magic_rule.proofs.FactLaws.{rule_found, sites, rule_for, magic_sites, sites_listed, heads_same}
use Rattle.walk.specs.terms.Left.{Tied}
use Rattle.magic_walk.specs.terms.Place.{magic_walker}

-- what a rule gives is a condition, or all of these alternatives
abbrev GivesAll : List Atom → RuleGives → Type 0
GivesAll atoms (onward n a) = Unit
GivesAll atoms (alternatives own) = own ≡ atoms

-- those of its clause
abbrev Whole : Problem → MagicClause → Type 0
Whole q r = GivesAll (clause_of q r.clause).alts r.gives

gives_all : (r : Clause) (i : ℕ) → GivesAll r.alts (gives_of r i)
gives_all r i = go (ltb i (length r.conds))
  where
    go : (b : Bool) → GivesAll r.alts (cond b (onward (suc i) (get_or r.conds i no_atom)) (alternatives r.alts))
    go true = tt
    go false = refl

rules_whole : (q : Problem) → All (Whole q) (rewriting_of q)
unfolding rewriting_of
rules_whole q =
    all_flat (λ k. clause_rules k (clause_of q k)) (Whole q) (tabulate (λ k. k) (length q.clauses))
    (All-tabulate (λ k. All (Whole q) (clause_rules k (clause_of q k))) (λ k. k) (length q.clauses) (λ k h.
    All-tabulate (Whole q) (rule_of k (clause_of q k)) (suc (length (clause_of q k).conds)) (λ i l. gives_all (clause_of q k) i)))

-- so two alternatives or more are all of them
heads_whole : (bs values : List ℕ) (atoms : List Atom) (g : RuleGives) → GivesAll atoms g → T (disjunctive (heads_by bs values g)) → heads_by bs values g ≡ head_numbers bs values atoms
heads_whole bs values atoms (onward n a) whole t = absurd t
heads_whole bs values atoms (alternatives own) whole t = ap (head_numbers bs values) whole

module _ (bs : List ℕ) (h : Ruled bs) where
  -- the alternatives of an instance's clause
  abbrev clause_heads : Instance → List ℕ
  clause_heads i = head_numbers bs i.values (clause_of h.problem i.clause).alts

  rule_whole : (q : ℕ) → q < rule_count bs → Whole h.problem (the_rule bs q)
  rule_whole q = subst (λ (xs : List ℕ). q < rule_count xs → Whole h.problem (the_rule xs q)) h.laid laid_whole
    where
      laid_whole : q < rule_count (rules_layout h.problem ++ h.rest) → Whole h.problem (the_rule (rules_layout h.problem ++ h.rest) q)
      laid_whole l =
          let there : q < length (rewriting_of h.problem) = omega (arith, counted h.problem h.fits h.rest) in
          subst (Whole h.problem) (sym (rule_found h.problem h.fits h.rest q there))
          (all_at (Whole h.problem) (rewriting_of h.problem) (no_rule h.problem h.fits) q there (rules_whole h.problem))

  -- a rule that gives two alternatives or more gives those of its instance's clause
  heads_own : (q : ℕ) → q < rule_count bs → (values : List ℕ) → T (disjunctive (rule_heads bs q values)) → rule_heads bs q values ≡ clause_heads (site_of bs q values)
  heads_own q l values t = heads_whole bs values (clause_of h.problem (the_rule bs q).clause).alts (the_rule bs q).gives (rule_whole q l) t

  module _ (l : List ℕ) where
    abbrev held : Magic Instance → Bool
    held = holds instance_key (false_in bs) (magic_in bs) l

    -- so does one that the walk splits
    abbrev Own : MagicRule Instance → Type 0
    Own r = heads_of r.gives ≡ clause_heads r.site

    ready-Own : (i : RuleSite) → ListedSite bs i → T (ready instance_key held (rule_for bs i)) → Own (rule_for bs i)
    ready-Own i listed t =
        let gs : List ℕ = heads_of (rule_for bs i).gives in
        let asks : Bool = every held (rule_for bs i).asks in
        let several : T (disjunctive gs) = T_left (disjunctive gs) asks (T_left (disjunctive gs && asks) (every (λ a. not (held (tru a))) gs) t) in
        heads_same bs i
        ∙ heads_own i.rule listed.known i.values (subst (λ (xs : List ℕ). T (disjunctive xs)) (heads_same bs i) several)

    each_own : All (λ r. T (ready instance_key held r) → Own r) (magic_in bs)
    each_own =
        let P : MagicRule Instance → Type 0 = λ r. T (ready instance_key held r) → Own r in
        subst (All P) (sym (magic_sites bs))
        (all_mapped (rule_for bs) P (sites bs) (all_map (ListedSite bs) (λ i. P (rule_for bs i)) ready-Own (sites bs) (sites_listed bs)))

    split_own : (i : Instance) (ds : List ℕ) → find_in bs l ≡ split i ds → ds ≡ branches (clause_heads i)
    unfolding find_in
    split_own i ds e =
        let f = find_m-split instance_key (false_in bs) (magic_in bs) l i ds e in
        f.3
        ∙ ap branches (first-some (ready instance_key held) Own (magic_in bs) each_own f.0 f.1)
        ∙ ap (λ (j : Instance). branches (clause_heads j)) f.2

  pub magic_tied : Tied (magic_walker bs)
  magic_tied s a rest path named g =
      let i : Instance = site_of bs s.number s.values in
      g.0.1
      ∙ ap (split i)
      (split_own (entered path) i (g.0.0 ++ (a ∷ rest)) g.0.1
      ∙ ap branches (sym (heads_own s.number named.listed.known s.values named.several)))
