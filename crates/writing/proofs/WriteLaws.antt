-- The steps of the functions that write, over lists.
use Prim.Native.Nat.{ℕ, ◌+◌, ◌*◌, ◌/◌, ◌%◌, ◌≤◌, ◌<◌, min}
use mathlib.Core.List.{List, [], ◌∷◌, ◌++◌, flat_map, append_assoc, append-nil}
use mathlib.Core.Bool.{false}
use mathlib.Core.Path.{◌≡◌, refl, sym, ap, subst, ◌∙◌}
use native.Mathlib.Nat.{add-zero, zero-add, mul-zero, mul-suc}
use native.Mathlib.Numerals.{add-one}
use native.Mathlib.Omega.{arith}
use lib.ListN.{length, take, drop, get_or, set, length-set, length-append}
use lib.Seq.{take_at, set_split}
use Rattle.lists.specs.Bytes.{same_list}
use Rattle.lists.specs.Tabulate.{tabulate}
use Rattle.lists.proofs.Digits.{digits_top}
use Rattle.lists.proofs.Bytes.{tabulate_part, splice_none, splice_then}
use Rattle.lists.proofs.Member.{flat_append, flat_snoc}
use Rattle.lists.proofs.Tabulate.{tabulate-length}
use Rattle.std.specs.Prelude.{Bool, ltb, Ok, Err}
use Rattle.problem.specs.declared.fault.Fault.{Fault}
use Rattle.problem.specs.declared.fault.Refusal.{Refusal}
use Rattle.writing.specs.Write.{write_result, write_leaves}
use Rattle.writing.specs.terms.Lent.{taken_of}
use Rattle.writing.proofs.LentLaws.{fault_says, ok_says}
use Rattle.problem.specs.Digit.{digits, hex_byte, hex_line}
use Rattle.problem.specs.Problem.{Problem}
use Rattle.problem.specs.Parse.{Parsed, refused, parsed, parse}
use Rattle.problem.specs.Layout.{atom_in, clause_in, problem_in, layout}
use Rattle.problem.specs.Print.{atom_bytes, heading_frame, clause_frame, closing_frame, print}
use Rattle.reading.specs.Read.{Reading, reading_of}
use Rattle.problem.specs.Table.{reads_to, is_valid}
use Rattle.reading.specs.terms.Filled.{ReadAs}
use Rattle.writing.specs.terms.Printed.{Put}

-- ---- bytes put over others, one after another

module _ {e x : List ℕ} {a m r : ℕ} {bs : List ℕ} (p : Put e a bs m r x) where
  pub put_as : {cs : List ℕ} → bs ≡ cs → Put e a cs m r x
  put_as q = subst (λ (l : List ℕ). Put e a l m r x) q p

  pub put_most : {n : ℕ} → m ≤ n → Put e a bs n r x
  put_most h = record { next = p.next; few = omega (arith, p.few); leaves = p.leaves }

  -- what is put after it, where there is room for both
  pub put_then : {y : List ℕ} {n s : ℕ} {cs : List ℕ} → a + m + n ≤ length e → Put x r cs n s y → Put e a (bs ++ cs) (m + n) s y
  put_then {cs = cs} h q =
      let room : a + length bs + length cs ≤ length e = omega (arith, p.few, q.few) in
      record {
        next = omega (arith, p.next, q.next, length-append bs cs);
        few = omega (arith, p.few, q.few, length-append bs cs);
        leaves = q.leaves ∙ rw (p.leaves, p.next) (splice_then a bs cs e room);
      }

pub put_none : (e : List ℕ) (a : ℕ) → Put e a [] 0 a e
put_none e a = record { next = sym (add-zero a); few = omega arith; leaves = splice_none a e }

-- ---- a byte, two digits, a line

pub put_one : (e : List ℕ) (a b : ℕ) → a < length e → Put e a (b ∷ []) 1 (a + 1) (set e a b)
put_one e a b h =
    record {
      next = refl;
      few = omega arith;
      leaves = set_split e a b h ∙ rw (add-one, append_assoc);
    }

pub put_two : (e : List ℕ) (a b c d : ℕ) → b < 256 → a + 2 ≤ length e → c ≡ get_or digits (b / 16) 0 → d ≡ get_or digits (b % 16) 0
    → Put e a (hex_byte b) 2 (a + 2) (set (set e a c) (a + 1) d)
unfolding hex_byte
put_two e a b c d small h p q =
    let two : a + 1 + 1 ≡ a + 2 = omega arith in
    let room : a + 1 + 1 ≤ length e = omega arith in
    let bytes : ◌≡◌ {A = List ℕ} (c ∷ d ∷ []) (hex_byte b) = rw (p, q, digits_top 16 1 b small) in
    subst
    (λ (n : ℕ). Put e a (hex_byte b) 2 n (set (set e a c) (a + 1) d))
    two
    (put_as (put_then (put_one e a c (omega arith)) room (put_one (set e a c) (a + 1) d (simp length-set (omega arith)))) bytes)

-- ---- a frame as a line

module _ {e x : List ℕ} {a m r : ℕ} where
  pub put_first : (b : ℕ) → Put e a (hex_byte b) m r x → Put e a (flat_map hex_byte (b ∷ [])) m r x
  unfolding flat_map
  put_first b p = put_as p (sym (append-nil (hex_byte b)))

  pub put_frame : {y : List ℕ} {n s : ℕ} (bs cs : List ℕ) → Put e a (flat_map hex_byte bs) m r x → a + m + n ≤ length e → Put x r (flat_map hex_byte cs) n s y
      → Put e a (flat_map hex_byte (bs ++ cs)) (m + n) s y
  put_frame bs cs p h q = put_as (put_then p h q) (sym (flat_append hex_byte bs cs))

  pub put_line : {y : List ℕ} {s : ℕ} (bs : List ℕ) → Put e a (flat_map hex_byte bs) m r x → a + m + 1 ≤ length e → Put x r (10 ∷ []) 1 s y → Put e a (hex_line bs) (m + 1) s y
  unfolding hex_line
  put_line bs p h q = put_then p h q

-- one byte more
pub put_hex : {e x y : List ℕ} {a m r s : ℕ} (bs : List ℕ) (b : ℕ) → Put e a (flat_map hex_byte bs) m r x → a + m + 2 ≤ length e → Put x r (hex_byte b) 2 s y
    → Put e a (flat_map hex_byte (bs ++ (b ∷ []))) (m + 2) s y
put_hex bs b p h q = put_frame bs (b ∷ []) p h (put_first b q)

-- ---- a loop: w bytes at most for each element

module _ {A : Type 0} (g : A → List ℕ) (f : ℕ → A) (w : ℕ) where
  pub puts_none : (e : List ℕ) (a : ℕ) → Put e a (flat_map g (tabulate f 0)) (w * 0) a e
  unfolding flat_map
  puts_none e a = rw mul-zero (put_none e a)

  pub puts_more : {e x y : List ℕ} {a r s : ℕ} (k : ℕ) → Put e a (flat_map g (tabulate f k)) (w * k) r x → a + w * k + w ≤ length e → Put x r (g (f k)) w s y
      → Put e a (flat_map g (tabulate f (k + 1))) (w * (k + 1)) s y
  unfolding flat_map
  puts_more {e} {x} {y} {a} {r} {s} k p h q = rw (add-one, mul-suc) (put_as (put_then p h q) (sym (flat_snoc g (tabulate f k) (f k))))

  pub puts_done : {e x : List ℕ} {a r : ℕ} (k n m : ℕ) → Put e a (flat_map g (tabulate f k)) (w * k) r x → k ≡ n → w * n ≤ m → Put e a (flat_map g (tabulate f n)) m r x
  puts_done {e} {x} {a} {r} k n m p same h = put_most (subst (λ (i : ℕ). Put e a (flat_map g (tabulate f i)) (w * i) r x) same p) h

-- ---- what is put, as the table has it

module _ (tb : List ℕ) (n : ℕ) where
  pub heading_frame_lem : length tb ≡ 4096 → n ≡ min (get_or tb 1 0) 32
      → (1 ∷ 1 ∷ get_or tb 0 0 ∷ n ∷ []) ++ tabulate (λ j. get_or tb (4 + j) 0) 4 ≡ heading_frame (problem_in tb)
  unfolding problem_in
  heading_frame_lem l e = rw (tabulate-length, ← e, tabulate_part tb 4 4 (omega arith))

  pub closing_frame_lem : n ≡ min (get_or tb 2 0) 64 → 255 ∷ n ∷ [] ≡ closing_frame (problem_in tb)
  unfolding problem_in
  closing_frame_lem e = rw (tabulate-length, ← e)

module _ (arities tb : List ℕ) (at n : ℕ) where
  pub atom_bytes_lem : n ≡ get_or arities (get_or tb at 0) 0 → get_or tb at 0 ∷ tabulate (λ j. get_or tb (at + 1 + j) 0) n ≡ atom_bytes (atom_in arities tb at)
  atom_bytes_lem e = rw e

  pub clause_frame_lem : (m : ℕ) → n ≡ min (get_or tb at 0) 4 → m ≡ min (get_or tb (at + 1) 0) 4
      → (3 ∷ n ∷ m ∷ []) ++ flat_map atom_bytes (tabulate (λ i. atom_in arities tb (at + 8 + 6 * i)) n) ++ flat_map atom_bytes (tabulate (λ i. atom_in arities tb (at + 32 + 6 * i)) m)
      ≡ clause_frame (clause_in arities tb at)
  clause_frame_lem m e f = rw (e, f) (simp tabulate-length)

-- ---- a text put from the start, and what is read of it

module _ {e x : List ℕ} {bs : List ℕ} {m r : ℕ} (p : Put e 0 bs m r x) where
  pub put_count : r ≡ length bs
  put_count = p.next ∙ zero-add (length bs)

  pub put_front : x ≡ bs ++ drop (length bs) e
  put_front = p.leaves ∙ rw zero-add

  pub put_text : take r x ≡ bs
  put_text = rw put_front (take_at bs (drop (length bs) e) r (sym put_count))

-- the table's text is a table's validity
pub valid_read : (tb x : List ℕ) → x ≡ print tb → reads_to (parse x) tb ≡ is_valid tb
unfolding is_valid
valid_read tb x text = ap (λ (y : List ℕ). reads_to (parse y) tb) text

-- a text is read into `own`
module _ (tb x own : List ℕ) (r : Reading) (f : ReadAs (parse x) r own) where
  pub not_read : {e : Refusal} → r ≡ Err e → false ≡ reads_to (parse x) tb
  not_read refusal = go (parse x) f.reading
    where
      go : (what : Parsed) → r ≡ reading_of what → false ≡ reads_to what tb
      go (refused i l) read = refl
      go (parsed q) read = let z : ◌≡◌ {A = ℕ} 0 1 = cc in absurd (omega arith)

  pub read_same : r ≡ Ok tt → same_list own tb ≡ reads_to (parse x) tb
  read_same accepted = go (parse x) f.reading f.table
    where
      go : (what : Parsed) → r ≡ reading_of what → ((q : Problem) → what ≡ parsed q → own ≡ layout q) → same_list own tb ≡ reads_to what tb
      go (refused i l) read table = let z : ◌≡◌ {A = ℕ} 0 1 = cc in absurd (omega arith)
      go (parsed q) read table = rw (table q refl)

-- ---- writing: what it says, and what it leaves in the text out

module _ (tb out : List ℕ) where
  abbrev short : Bool
  short = ltb (length out) 7168

  abbrev text : List ℕ
  text = print (take 4096 tb)

  pub write_refused : {e : Fault} → taken_of tb short ≡ Err e → (Err e ≡ write_result tb out) × (out ≡ write_leaves tb out)
  unfolding write_result write_leaves
  write_refused q = (fault_says tb short Err (Ok (length text)) q, fault_says tb short (λ e. out) (text ++ drop (length text) out) q)

  pub write_done : {u : Unit {0}} {x : List ℕ} {m r : ℕ} → taken_of tb short ≡ Ok u → Put out 0 text m r x → (Ok r ≡ write_result tb out) × (x ≡ write_leaves tb out)
  unfolding write_result write_leaves
  write_done q p =
      (ap Ok (put_count p) ∙ ok_says tb short Err (Ok (length text)) q, put_front p ∙ ok_says tb short (λ e. out) (text ++ drop (length text) out) q)
