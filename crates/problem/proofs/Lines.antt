-- Laws of a line: what stands in the text where a line holds n bytes, that its frame, printed, is that text, and that a frame printed is a line.
use Prim.Native.Nat.{ℕ, zero, suc, ◌+◌, ◌-◌, ◌*◌, ◌/◌, ◌%◌, ◌≤◌, ◌<◌}
use mathlib.Core.Bool.{Bool, true, false, not, cond, ◌&&◌}
use mathlib.Core.List.{List, [], ◌∷◌, ◌++◌, append_assoc, flat_map}
use mathlib.Core.Logic.{◌⊎◌, inl, inr}
use mathlib.Core.Path.{◌≡◌, refl, sym, subst, ◌∙◌}
use native.Mathlib.Nat.{add-zero}
use native.Mathlib.Omega.{arith}
use borrow.Author.Tests.{lt-ltb, le-ltb, eq-eqb}
use lib.Dec.{T, eqb, ltb, eqb→eq, ltb→lt, nltb→le}
use lib.ListN.{length, drop, get_or, get_or-eq_default}
use lib.Seq.{drop-cons}
use Rattle.lists.specs.Digits.{horner}
use Rattle.lists.specs.Member.{All}
use Rattle.lists.proofs.Test.{T-true, T-false, decided}
use Rattle.lists.specs.Test.{T_left, T_right}
use Rattle.lists.proofs.Bytes.{drop_next, tabulate_of}
use Rattle.lists.proofs.Member.{flat_snoc}
use Rattle.lists.proofs.Tabulate.{tabulate-length, tabulate_at, All-tabulate}
use Rattle.problem.specs.declared.line.Line.{Line}
use Rattle.problem.specs.declared.line.Line.TheVariants.{Absent, Bad, Holds}
use Rattle.problem.specs.Digit.{digit_of, is_digit, hex_byte, hex_line}
use Rattle.problem.specs.Line.{run, is_line, line_of, line_at, byte_at, frame_at, after_line}
use Rattle.problem.proofs.Digits.{digit_is, digit_other, hex_small, hex_back, hex_spelled}

-- at most n are counted
pub run-le : (x : List ℕ) (at n : ℕ) → run x at n ≤ n
unfolding run
run-le x at zero = omega arith
run-le x at (suc n) = go (is_digit (get_or x at 0)) (run-le x (suc at) n)
  where
    go : (b : Bool) → run x (suc at) n ≤ n → cond b (suc (run x (suc at) n)) 0 ≤ suc n
    go true h = omega arith
    go false h = omega arith

-- counting goes on past a digit and stops at any other byte
pub run_digit : (x : List ℕ) (at n : ℕ) → T (is_digit (get_or x at 0)) → run x at (suc n) ≡ suc (run x (suc at) n)
unfolding run
run_digit x at n t = rw (T-true (is_digit (get_or x at 0)) t)

pub run_other : (x : List ℕ) (at n : ℕ) → T (not (is_digit (get_or x at 0))) → run x at n ≡ 0
unfolding run
run_other x at zero t = refl
run_other x at (suc n) t = rw (T-false (is_digit (get_or x at 0)) t)

-- each byte counted is a digit
pub run_digits : (x : List ℕ) (at n j : ℕ) → j < run x at n → T (is_digit (get_or x (at + j) 0))
unfolding run
run_digits x at zero j h = absurd (omega arith)
run_digits x at (suc n) j h = go (is_digit (get_or x at 0)) refl j (run_digits x (suc at) n) h
  where
    go : (b : Bool) → is_digit (get_or x at 0) ≡ b → (j : ℕ) → ((i : ℕ) → i < run x (suc at) n → T (is_digit (get_or x (suc at + i) 0)))
        → j < cond b (suc (run x (suc at) n)) 0 → T (is_digit (get_or x (at + j) 0))
    go false e j f l = absurd (omega arith)
    go true e zero f l = rw (add-zero, e) tt
    go true e (suc i) f l =
        let same : suc at + i ≡ at + suc i = omega arith in
        subst (λ (k : ℕ). T (is_digit (get_or x k 0))) same (f i (omega arith))

-- d digits of a run of at most m have been counted
module _ (x : List ℕ) (at m d : ℕ) (e : run x at m ≡ d + run x (at + d) (m - d)) where
  pub run_more : d < m → digit_of (get_or x (at + d) 0) < 16 → run x at m ≡ d + 1 + run x (at + (d + 1)) (m - (d + 1))
  run_more h b =
      let left : m - d ≡ suc (m - (d + 1)) = omega arith in
      let next : suc (at + d) ≡ at + (d + 1) = omega arith in
      let counted : run x (at + d) (m - d) ≡ suc (run x (at + (d + 1)) (m - (d + 1))) =
      rw (left, run_digit x (at + d) (m - (d + 1)) (digit_is (get_or x (at + d) 0) b), next)
      in
      omega arith

  -- at m, at a byte that is no digit, and at the text's end
  pub run_full : d ≡ m → d ≡ run x at m
  run_full h = omega (arith, run-le x (at + d) (m - d))

  pub run_stops : 16 ≤ digit_of (get_or x (at + d) 0) → d ≡ run x at m
  run_stops h = omega (arith, run_other x (at + d) (m - d) (digit_other (get_or x (at + d) 0) h))

  pub run_past : length x ≤ at + d → d ≡ run x at m
  unfolding digit_of
  run_past h = run_stops (subst (λ (b : ℕ). 16 ≤ digit_of b) (sym (get_or-eq_default x 0 h)) (omega arith))

-- a byte that is not 0 stands in the text
inside : (x : List ℕ) (i b : ℕ) → get_or x i 0 ≡ suc b → i < length x
inside x i b e = go (decided (ltb i (length x)))
  where
    go : T (ltb i (length x)) ⊎ T (not (ltb i (length x))) → i < length x
    go (inl t) = ltb→lt i (length x) t
    go (inr t) =
        let out : get_or x i 0 ≡ 0 = get_or-eq_default x 0 (nltb→le i (length x) t) in
        absurd (omega arith)

-- what a line of n bytes says of the text
pub record Held (x : List ℕ) (at n : ℕ) : Type 0 where
  pub counted : run x at 71 ≡ 2 * n
  pub some_byte : 0 < n
  pub short : n < 36
  pub ended : get_or x (at + 2 * n) 0 ≡ 10

module _ (x : List ℕ) (at : ℕ) where
  line_of_lem : (d n : ℕ) → run x at 71 ≡ d → line_of x at d ≡ Holds n → Held x at n
  line_of_lem d n r e = go (is_line x at d) (λ t. t) e
    where
      go : (b : Bool) → (T b → T (is_line x at d)) → ◌≡◌ {A = Line} (cond b (Holds (d / 2)) Bad) (Holds n) → Held x at n
      go false f q = let z : ◌≡◌ {A = ℕ} 0 1 = cc in absurd (omega arith)
      go true f q =
          let sized = ltb 0 d && ltb d 71 in
          let even = eqb (d % 2) 0 in
          let closed = eqb (get_or x (at + d) 0) 10 in
          let three : T (sized && even) = T_left (sized && even) closed (f tt) in
          let two : T sized = T_left sized even three in
          let low : 0 < d = ltb→lt 0 d (T_left (ltb 0 d) (ltb d 71) two) in
          let high : d < 71 = ltb→lt d 71 (T_right (ltb 0 d) (ltb d 71) two) in
          let whole : d % 2 ≡ 0 = eqb→eq (d % 2) 0 (T_right sized even three) in
          let half : d / 2 ≡ n = cc in
          let twice : d ≡ 2 * n = omega arith in
          record {
            counted = r ∙ twice;
            some_byte = omega arith;
            short = omega arith;
            ended = subst (λ (k : ℕ). get_or x (at + k) 0 ≡ 10) twice (eqb→eq (get_or x (at + d) 0) 10 (T_right (sized && even) closed (f tt)));
          }

  pub line_holds : (n : ℕ) → line_at x at ≡ Holds n → Held x at n
  unfolding line_at
  line_holds n e = go (ltb at (length x)) e
    where
      go : (b : Bool) → ◌≡◌ {A = Line} (cond b (line_of x at (run x at 71)) Absent) (Holds n) → Held x at n
      go true q = line_of_lem (run x at 71) n refl q
      go false q = let z : ◌≡◌ {A = ℕ} 0 1 = cc in absurd (omega arith)

  -- d digits stand where a line starts
  pub line_counted : (d : ℕ) → at < length x → d ≡ run x at 71 → line_at x at ≡ line_of x at d
  unfolding line_at
  line_counted d h e = rw (lt-ltb at (length x) h, e)

  -- no line starts where the text has ended, and there only
  pub line_past : length x ≤ at → line_at x at ≡ Absent
  unfolding line_at
  line_past h = rw (le-ltb at (length x) h)

  pub line_absent : line_at x at ≡ Absent → length x ≤ at
  unfolding line_at
  line_absent e = go (ltb at (length x)) (nltb→le at (length x)) e
    where
      of : (b : Bool) (n : ℕ) → ◌≡◌ {A = Line} (cond b (Holds n) Bad) Absent → ⊥
      of true n q = let z : ◌≡◌ {A = ℕ} 0 1 = cc in omega arith
      of false n q = let z : ◌≡◌ {A = ℕ} 0 1 = cc in omega arith

      go : (b : Bool) → (T (not b) → length x ≤ at) → ◌≡◌ {A = Line} (cond b (line_of x at (run x at 71)) Absent) Absent → length x ≤ at
      go true f q = absurd (of (is_line x at (run x at 71)) (run x at 71 / 2) q)
      go false f q = f tt

  pub line_digits : (n : ℕ) → line_at x at ≡ Holds n → (j : ℕ) → j < 2 * n → T (is_digit (get_or x (at + j) 0))
  line_digits n e j h = run_digits x at 71 j (rw (line_holds n e).counted h)

  pub line_size : (n : ℕ) → line_at x at ≡ Holds n → (0 < n) × (n < 36)
  line_size n e = ((line_holds n e).some_byte, (line_holds n e).short)

  pub line_room : (n : ℕ) → line_at x at ≡ Holds n → (at + 2 * n < length x) × (get_or x (at + 2 * n) 0 ≡ 10)
  line_room n e = let end = (line_holds n e).ended in (inside x (at + 2 * n) 9 end, end)

  pub frame_length : (n : ℕ) → length (frame_at x at n) ≡ n
  unfolding frame_at
  frame_length n = tabulate-length (λ j. byte_at x (at + 2 * j)) n

  pub frame_byte : (n j : ℕ) → j < n → get_or (frame_at x at n) j 0 ≡ byte_at x (at + 2 * j)
  unfolding frame_at
  frame_byte n j h = tabulate_at (λ k. byte_at x (at + 2 * k)) 0 n j h

-- two digits of the text are those of the byte that they stand for
module _ (x : List ℕ) (at : ℕ) (p : T (is_digit (get_or x at 0))) (q : T (is_digit (get_or x (suc at) 0))) where
  byte_small : byte_at x at < 256
  unfolding byte_at
  byte_small = hex_small (get_or x at 0) (get_or x (suc at) 0) p q

  byte_text : suc at < length x → drop at x ≡ hex_byte (byte_at x at) ++ drop (suc (suc at)) x
  unfolding byte_at
  byte_text h =
      let l : at < length x = omega arith in
      drop-cons x at 0 l ∙ rw (drop-cons x (suc at) 0 h, hex_back (get_or x at 0) (get_or x (suc at) 0) p q)

module _ (x : List ℕ) (at : ℕ) where
  -- 2 n digits are those of the n bytes that they stand for
  digits_text : (n : ℕ) → at + 2 * n ≤ length x → ((j : ℕ) → j < 2 * n → T (is_digit (get_or x (at + j) 0)))
      → drop at x ≡ flat_map hex_byte (frame_at x at n) ++ drop (at + 2 * n) x
  unfolding frame_at flat_map
  digits_text zero h f = rw add-zero
  digits_text (suc n) h f =
      let place = at + 2 * n in
      let next : suc (suc place) ≡ at + 2 * suc n = omega arith in
      let one : suc (at + 2 * n) ≡ at + suc (2 * n) = omega arith in
      let first : T (is_digit (get_or x place 0)) = f (2 * n) (omega arith) in
      let second : T (is_digit (get_or x (suc place) 0)) = rw one (f (suc (2 * n)) (omega arith)) in
      let byte : drop place x ≡ hex_byte (byte_at x place) ++ drop (at + 2 * suc n) x =
      subst (λ (k : ℕ). drop place x ≡ hex_byte (byte_at x place) ++ drop k x) next (byte_text x place first second (omega arith))
      in
      digits_text n (omega arith) (λ j l. f j (omega arith))
      ∙ rw (byte, flat_snoc hex_byte (frame_at x at n) (byte_at x place), append_assoc)

  pub frame_bytes : (n : ℕ) → line_at x at ≡ Holds n → All (λ b. b < 256) (frame_at x at n)
  unfolding frame_at
  frame_bytes n e = All-tabulate (λ b. b < 256) (λ j. byte_at x (at + 2 * j)) n small
    where
      small : (j : ℕ) → j < n → byte_at x (at + 2 * j) < 256
      small j h =
          let one : suc (at + 2 * j) ≡ at + suc (2 * j) = omega arith in
          byte_small x (at + 2 * j) (line_digits x at n e (2 * j) (omega arith)) (rw one (line_digits x at n e (suc (2 * j)) (omega arith)))

  -- a line is its frame printed
  pub line_text : (n : ℕ) → line_at x at ≡ Holds n → drop at x ≡ hex_line (frame_at x at n) ++ drop (after_line at n) x
  unfolding hex_line
  line_text n e =
      let room = line_room x at n e in
      let one : suc (at + 2 * n) ≡ at + 2 * n + 1 = omega arith in
      let rest : drop (at + 2 * n) x ≡ 10 ∷ drop (at + 2 * n + 1) x = drop-cons x (at + 2 * n) 0 room.0 ∙ rw (room.1, one) in
      digits_text n (omega arith) (line_digits x at n e) ∙ rw (rest, append_assoc)

-- ---- a line that is printed

-- the digits of b stand in the text, and this after them
record Spelled (x : List ℕ) (at b : ℕ) (after : List ℕ) : Type 0 where
  high : T (is_digit (get_or x at 0))
  low : T (is_digit (get_or x (suc at) 0))
  value : byte_at x at ≡ b
  rest : drop (suc (suc at)) x ≡ after

module _ (x : List ℕ) where
  byte_printed : (at b : ℕ) (after : List ℕ) → b < 256 → drop at x ≡ hex_byte b ++ after → Spelled x at b after
  unfolding hex_byte byte_at
  byte_printed at b after small e =
      let h = get_or (hex_byte b) 0 0 in
      let l = get_or (hex_byte b) 1 0 in
      let first = drop_next x at h (l ∷ after) e in
      let second = drop_next x (suc at) l after first.2 in
      let both = is_digit h && is_digit l in
      let says : T (both && eqb (horner 16 (digit_of h ∷ digit_of l ∷ [])) b) = hex_spelled b small in
      record {
        high = rw first.1 (T_left (is_digit h) (is_digit l) (T_left both _ says));
        low = rw second.1 (T_right (is_digit h) (is_digit l) (T_left both _ says));
        value = rw (first.1, second.1) (eqb→eq (horner 16 (digit_of h ∷ digit_of l ∷ [])) b (T_right both _ says));
        rest = second.2;
      }

  -- as many digits are counted as were printed
  run_printed : (f : List ℕ) (at n : ℕ) (after : List ℕ) → All (λ b. b < 256) f → 2 * length f < n → drop at x ≡ flat_map hex_byte f ++ (10 ∷ after)
      → run x at n ≡ 2 * length f
  unfolding flat_map is_digit digit_of
  run_printed [] at n after small room e = run_other x at n (rw (drop_next x at 10 after e).1 tt)
  run_printed (b ∷ f) at zero after small room e = absurd (omega arith)
  run_printed (b ∷ f) at (suc zero) after small room e = absurd (omega arith)
  run_printed (b ∷ f) at (suc (suc n)) after small room e =
      let byte = byte_printed at b (flat_map hex_byte f ++ (10 ∷ after)) small.0 (e ∙ rw append_assoc) in
      let rest = run_printed f (suc (suc at)) n after small.1 (omega arith) byte.rest in
      let one = run_digit x at (suc n) byte.high in
      let two = run_digit x (suc at) n byte.low in
      omega arith

  bytes_printed : (f : List ℕ) (at : ℕ) (after : List ℕ) → All (λ b. b < 256) f → drop at x ≡ flat_map hex_byte f ++ after → (i : ℕ) → i < length f
      → byte_at x (at + 2 * i) ≡ get_or f i 0
  unfolding flat_map
  bytes_printed [] at after small e i h = absurd (omega arith)
  bytes_printed (b ∷ f) at after small e zero h = rw add-zero (byte_printed at b (flat_map hex_byte f ++ after) small.0 (e ∙ rw append_assoc)).value
  bytes_printed (b ∷ f) at after small e (suc i) h =
      let byte = byte_printed at b (flat_map hex_byte f ++ after) small.0 (e ∙ rw append_assoc) in
      let place : suc (suc at) + 2 * i ≡ at + 2 * suc i = omega arith in
      rw (← place) (bytes_printed f (suc (suc at)) after small.1 byte.rest i (omega arith))

  past_printed : (f : List ℕ) (at : ℕ) (after : List ℕ) → All (λ b. b < 256) f → drop at x ≡ flat_map hex_byte f ++ after → drop (at + 2 * length f) x ≡ after
  unfolding flat_map
  past_printed [] at after small e = rw add-zero e
  past_printed (b ∷ f) at after small e =
      let byte = byte_printed at b (flat_map hex_byte f ++ after) small.0 (e ∙ rw append_assoc) in
      let place : suc (suc at) + 2 * length f ≡ at + 2 * suc (length f) = omega arith in
      rw (← place) (past_printed f (suc (suc at)) after small.1 byte.rest)

-- a line holds this frame, and this stands after it
pub record Holding (x : List ℕ) (at : ℕ) (f after : List ℕ) : Type 0 where
  pub line : line_at x at ≡ Holds (length f)
  pub frame : frame_at x at (length f) ≡ f
  pub rest : drop (after_line at (length f)) x ≡ after

-- a frame that is printed is the line that holds it
pub line_printed : (x : List ℕ) (at : ℕ) (f after : List ℕ) → All (λ b. b < 256) f → 0 < length f → length f < 36 → drop at x ≡ hex_line f ++ after → Holding x at f after
unfolding hex_line frame_at
line_printed x at f after small some short e =
    let text : drop at x ≡ flat_map hex_byte f ++ (10 ∷ after) = e ∙ rw append_assoc in
    let past : drop (at + 2 * length f) x ≡ 10 ∷ after = past_printed x f at (10 ∷ after) small text in
    let end = drop_next x (at + 2 * length f) 10 after past in
    let room : at + 2 * length f < length x = end.0 in
    let counted = run_printed x f at 71 after small (omega arith) text in
    let low = lt-ltb 0 (2 * length f) (omega arith) in
    let high = lt-ltb (2 * length f) 71 (omega arith) in
    let even = eq-eqb (2 * length f % 2) 0 (omega arith) in
    let closed = eq-eqb (get_or x (at + 2 * length f) 0) 10 end.1 in
    let half : 2 * length f / 2 ≡ length f = omega arith in
    let one : suc (at + 2 * length f) ≡ at + 2 * length f + 1 = omega arith in
    record {
      line = line_counted x at (2 * length f) (omega arith) (sym counted) ∙ rw (low, high, even, closed, half);
      frame = tabulate_of (λ j. byte_at x (at + 2 * j)) 0 f (length f) refl (bytes_printed x f at (10 ∷ after) small text);
      rest = rw (← one) end.2;
    }
