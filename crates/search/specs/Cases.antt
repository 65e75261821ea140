-- Small ground problems at which mistakes show. The worked cases of document 01 stand with the text, in the crate `ground`.
use Rattle.std.specs.Prelude.{ℕ, true, false, List, [], ◌∷◌, map, ◌≡◌, length, get_or}
use Rattle.lists.specs.Key.{nat_key}
use Rattle.lists.specs.Tabulate.{tabulate}
use Rattle.search.specs.Ground.{Ground, Found}
use Rattle.search.specs.Relevancy.{find_r}
use Rattle.search.specs.Magic.{rewriting, find_m}
use Rattle.search.specs.Staged.{find_s}
use Rattle.search.specs.Machine.{Outcome, Satisfied, Refuted, Exhausted, outcome, deepest_under}

-- an instance: its conditions, and its alternatives
pub record Case : Type 0 where
  pub atoms : ℕ
  pub instances : List (List ℕ × List ℕ)
  pub limit : ℕ
  pub expected : Outcome

abbrev pub problem_of : Case → Ground ℕ
problem_of k =
    record {
      atoms = k.atoms;
      instances = tabulate (λ i. i) (length k.instances);
      conds = λ i. (get_or k.instances i ([], [])).0;
      alts = λ i. (get_or k.instances i ([], [])).1;
    }

-- how each engine finds a node
abbrev pub relevancy_find : Case → List ℕ → Found ℕ
relevancy_find k = find_r (problem_of k)

abbrev pub magic_find : Case → List ℕ → Found ℕ
magic_find k = find_m nat_key k.atoms (rewriting (problem_of k))

-- 0 or 1. 0 gives 2 or 3. Not 2. Not 3. Not 1 and 4. The entries are 0, 2 and 3 below it, and 1, where it is open
abbrev pub deep_then_shallow : Case
deep_then_shallow =
    record {
      atoms = 5;
      instances = ([], 0 ∷ 1 ∷ []) ∷ (0 ∷ [], 2 ∷ 3 ∷ []) ∷ (2 ∷ [], []) ∷ (3 ∷ [], []) ∷ (1 ∷ 4 ∷ [], []) ∷ [];
      limit = 4;
      expected = Satisfied 4 (false ∷ true ∷ false ∷ false ∷ false ∷ []);
    }

-- the mistakes, and the problems at which they show
abbrev pub cases : List Case
cases =
    -- Not 0 and 1. Wanting the later condition too early, or handing out the true atoms, takes atom 1 out of the model; a magic rule that does not
    -- ask its condition closes the root
    record { atoms = 2; instances = (0 ∷ 1 ∷ [], []) ∷ []; limit = 100; expected = Satisfied 0 (false ∷ true ∷ []) }
    -- 0 or 1. Not 0 and 3. Not 1 and 3. 2 gives 0. Dropping the mark of 0 once it is entered puts atom 2 into the model; counting the root counts 2
    ∷ record {
      atoms = 4;
      instances = ([], 0 ∷ 1 ∷ []) ∷ (0 ∷ 3 ∷ [], []) ∷ (1 ∷ 3 ∷ [], []) ∷ (2 ∷ [], 0 ∷ []) ∷ [];
      limit = 100;
      expected = Satisfied 1 (true ∷ false ∷ false ∷ false ∷ []);
    }
    -- No condition and no alternative: skipping "false" leaves the root open
    ∷ record { atoms = 1; instances = ([], []) ∷ []; limit = 100; expected = Refuted 0 }
    -- 0 or 0. Not 0. Entering 0 a second time, or only counting it, is spent
    ∷ record { atoms = 1; instances = ([], 0 ∷ 0 ∷ []) ∷ (0 ∷ [], []) ∷ []; limit = 1; expected = Refuted 1 }
    -- 0 or 1 or 0. Not 0. Not 1. A repeat behind another alternative is passed over too. Under a limit of 1 it is spent after the first entry
    ∷ record { atoms = 2; instances = ([], 0 ∷ 1 ∷ 0 ∷ []) ∷ (0 ∷ [], []) ∷ (1 ∷ [], []) ∷ []; limit = 100; expected = Refuted 2 }
    ∷ record { atoms = 2; instances = ([], 0 ∷ 1 ∷ 0 ∷ []) ∷ (0 ∷ [], []) ∷ (1 ∷ [], []) ∷ []; limit = 1; expected = Exhausted 1 }
    -- 0 or 1 or 1. Not 0. Not 1. Comparing with the first alternative alone enters 1 again
    ∷ record { atoms = 2; instances = ([], 0 ∷ 1 ∷ 1 ∷ []) ∷ (0 ∷ [], []) ∷ (1 ∷ [], []) ∷ []; limit = 100; expected = Refuted 2 }
    -- 0 or 1 or 0. Not 0 and 2. Not 1. Passing over the one that is equal to a later one enters 1 first
    ∷ record {
      atoms = 3;
      instances = ([], 0 ∷ 1 ∷ 0 ∷ []) ∷ (0 ∷ 2 ∷ [], []) ∷ (1 ∷ [], []) ∷ [];
      limit = 100;
      expected = Satisfied 1 (true ∷ false ∷ false ∷ []);
    }
    -- 0 or 1. 1 or 2. Not 0. Not 1. Not 2 and 3. Splitting the last instance that can be split makes four entries
    ∷ record {
      atoms = 4;
      instances = ([], 0 ∷ 1 ∷ []) ∷ ([], 1 ∷ 2 ∷ []) ∷ (0 ∷ [], []) ∷ (1 ∷ [], []) ∷ (2 ∷ 3 ∷ [], []) ∷ [];
      limit = 100;
      expected = Refuted 2;
    }
    -- 0. 0 or 1. Not 0 and 2. Not 1 and 2. Asking that no alternative is entered, and not that none is true, enters 0
    ∷ record {
      atoms = 3;
      instances = ([], 0 ∷ []) ∷ ([], 0 ∷ 1 ∷ []) ∷ (0 ∷ 2 ∷ [], []) ∷ (1 ∷ 2 ∷ [], []) ∷ [];
      limit = 100;
      expected = Satisfied 0 (true ∷ false ∷ false ∷ []);
    }
    ∷ deep_then_shallow
    ∷ []

abbrev pub staged_find : Case → List ℕ → Found ℕ
staged_find k = find_s (problem_of k)

-- where marking in stages shows; expected by U12
abbrev pub staged_cases : List Case
staged_cases =
    -- Document 000's example 7, p q a f e b as 0 to 5. "a gives p or q" can be split a stage before "a gives e or f" can; marking that goes on past it makes 6 entries, as the
    -- relevancy walk does, so is spent
    record {
      atoms = 6;
      instances = (0 ∷ [], []) ∷ (1 ∷ [], []) ∷ (3 ∷ [], 2 ∷ []) ∷ (4 ∷ [], 2 ∷ []) ∷ (5 ∷ [], 2 ∷ []) ∷ ([], 5 ∷ []) ∷ (2 ∷ [], 4 ∷ 3 ∷ []) ∷ (2 ∷ [], 0 ∷ 1 ∷ []) ∷ [];
      limit = 3;
      expected = Refuted 2;
    }
    -- 3 or 0. 2 gives 0 or 1. 3 gives 2 or 0. 2 or 1. Not 0. Not 1. A step that looks at marks made in the same step makes 6 entries
    ∷ record {
      atoms = 4;
      instances = ([], 3 ∷ 0 ∷ []) ∷ (2 ∷ [], 0 ∷ 1 ∷ []) ∷ (3 ∷ [], 2 ∷ 0 ∷ []) ∷ ([], 2 ∷ 1 ∷ []) ∷ (0 ∷ [], []) ∷ (1 ∷ [], []) ∷ [];
      limit = 100;
      expected = Refuted 4;
    }
    -- 2 and 3 give 0 or 1. Not 0. Not 1. A later condition marked early takes atom 3 out of the model
    ∷ record {
      atoms = 4;
      instances = (2 ∷ 3 ∷ [], 0 ∷ 1 ∷ []) ∷ (0 ∷ [], []) ∷ (1 ∷ [], []) ∷ [];
      limit = 100;
      expected = Satisfied 0 (false ∷ false ∷ false ∷ true ∷ []);
    }
    -- 3 or 0. 2 gives 0 or 1. 3 gives 0 or 1. 2 or 0 or 1. Not 0. Not 1. A step by its first instance alone makes 5 entries
    ∷ record {
      atoms = 4;
      instances = ([], 3 ∷ 0 ∷ []) ∷ (2 ∷ [], 0 ∷ 1 ∷ []) ∷ (3 ∷ [], 0 ∷ 1 ∷ []) ∷ ([], 2 ∷ 0 ∷ 1 ∷ []) ∷ (0 ∷ [], []) ∷ (1 ∷ [], []) ∷ [];
      limit = 100;
      expected = Refuted 4;
    }
    -- 3 or 0. 2 gives 0 or 1. 3 gives 2. 2 or 0 or 1. Not 0. Not 1. A stage that does not take in the chains, or looks for a split before it does, makes 5
    ∷ record {
      atoms = 4;
      instances = ([], 3 ∷ 0 ∷ []) ∷ (2 ∷ [], 0 ∷ 1 ∷ []) ∷ (3 ∷ [], 2 ∷ []) ∷ ([], 2 ∷ 0 ∷ 1 ∷ []) ∷ (0 ∷ [], []) ∷ (1 ∷ [], []) ∷ [];
      limit = 100;
      expected = Refuted 4;
    }
    -- 3 or 0. 3 gives 2 or 0. 2 gives 0 or 1. 3 gives 0 or 1. Not 0. Not 1. Marks kept from the node above make 6
    ∷ record {
      atoms = 4;
      instances = ([], 3 ∷ 0 ∷ []) ∷ (3 ∷ [], 2 ∷ 0 ∷ []) ∷ (2 ∷ [], 0 ∷ 1 ∷ []) ∷ (3 ∷ [], 0 ∷ 1 ∷ []) ∷ (0 ∷ [], []) ∷ (1 ∷ [], []) ∷ [];
      limit = 100;
      expected = Refuted 4;
    }
    -- 5 gives 4 or 0. 4 gives 2 or 3. 2 gives 0 or 1. 3 gives 0 or 1. Not 0. Not 1. Marking that is over after one step or two leaves 4 or 5 in the model
    ∷ record {
      atoms = 6;
      instances = (5 ∷ [], 4 ∷ 0 ∷ []) ∷ (4 ∷ [], 2 ∷ 3 ∷ []) ∷ (2 ∷ [], 0 ∷ 1 ∷ []) ∷ (3 ∷ [], 0 ∷ 1 ∷ []) ∷ (0 ∷ [], []) ∷ (1 ∷ [], []) ∷ [];
      limit = 100;
      expected = Satisfied 0 (false ∷ false ∷ false ∷ false ∷ false ∷ false ∷ []);
    }
    -- 2. 2 and 3 give 0 or 1. Not 0. Not 1. A step that marks the first condition alone leaves 3 in the model
    ∷ record {
      atoms = 4;
      instances = ([], 2 ∷ []) ∷ (2 ∷ 3 ∷ [], 0 ∷ 1 ∷ []) ∷ (0 ∷ [], []) ∷ (1 ∷ [], []) ∷ [];
      limit = 100;
      expected = Satisfied 0 (false ∷ false ∷ true ∷ false ∷ []);
    }
    ∷ []

abbrev pub AsExpected : (Case → List ℕ → Found ℕ) → Type 0
AsExpected find = map (λ k. outcome (find k) k.limit) cases ≡ map (λ k. k.expected) cases

-- The deepest figure, under each of these limits. Limit 1: the entry that is due, counted in, gives 2. Limit 2: an entry that is closed at once, not counted, gives 1.
-- Limit 3, where the session stands at the root: the length of its path is 0. Limit 4, open after 4 entries on a path of 1: the last path entered gives 1
abbrev pub DeepAsExpected : (Case → List ℕ → Found ℕ) → Type 0
DeepAsExpected find = map (deepest_under (find deep_then_shallow)) (0 ∷ 1 ∷ 2 ∷ 3 ∷ 4 ∷ []) ≡ 0 ∷ 1 ∷ 2 ∷ 2 ∷ 2 ∷ []

-- each walk ends as it should, and has the figure that it should
pub record CasesHold : Type 0 where
  pub relevancy : AsExpected relevancy_find
  pub magic : AsExpected magic_find
  pub staged : AsExpected staged_find
  pub staged_apart : map (λ k. outcome (staged_find k) k.limit) staged_cases ≡ map (λ k. k.expected) staged_cases
  pub relevancy_deepest : DeepAsExpected relevancy_find
  pub magic_deepest : DeepAsExpected magic_find
