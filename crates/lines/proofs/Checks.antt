-- What the checks of a clue and of a line give, by the way that they go; and what holds of a clue that they accept.
use mathlib.Core.Path.{◌≡◌, refl, sym}
use mathlib.Core.Bool.{true, false}
use mathlib.Core.List.{List, [], ◌∷◌}
use Prim.Native.Nat.{ℕ, suc, ◌+◌, ◌/◌, ◌%◌, ◌≤◌, ◌<◌}
use native.Mathlib.Omega.{arith}
use native.Mathlib.Decide.{ℕ_discrete}
use lib.ListN.{length, get_or}
use lib.Dec.{eqb, ltb}
use borrow.Author.Tests.{eq-eqb, ne_eqb, lt-ltb, le-ltb, ltb-false}
use Rattle.lists.proofs.Tests.{neither}
use Rattle.refusals.specs.Verdict.{Verdict, accepted, refused, passed, refuse, and_then}
use Rattle.refusals.specs.Told.{refusal}
use Rattle.refusals.specs.declared.Refusal.{Refusal}
use Rattle.refusals.proofs.Answering.{handed_up, accepted_first, refuse_accepted, then_accepted}
use Rattle.refusals.proofs.Offending.{none_off, off_none}
use Rattle.lines.specs.Clue.{Block, words, blocks, gap, min_space}
use Rattle.lines.specs.Arrangement.{Proper, block_at}
use Rattle.lines.specs.Calls.{off_size, block_checks, clue_checks, byte_checks, line_checks}
use Rattle.lines.proofs.ClueWords.{words_length, blocks_words}

-- ---- a clue

-- what its check tells: a refusal, or the least space
abbrev Space : ℕ → List ℕ → Verdict ℕ
Space n clue = and_then (clue_checks n clue) (accepted (min_space gap (blocks clue)))

module _ (n : ℕ) (clue : List ℕ) where
  pub size_refused : off_size n ≡ true → refused 2 0 ≡ Space n clue
  unfolding clue_checks
  size_refused s = rw s

  module _ (s : off_size n ≡ false) where
    pub odd_refused : length clue % 2 ≡ 1 → refused 1 (length clue) ≡ Space n clue
    unfolding clue_checks
    odd_refused e = rw (s, eq-eqb _ _ e)

    module _ (e : length clue % 2 ≡ 1 → ⊥) where
      pub many_refused : 64 < length clue / 2 → refused 3 0 ≡ Space n clue
      unfolding clue_checks
      many_refused h = rw (s, ne_eqb _ _ e, lt-ltb _ _ h)

      module _ (h : length clue / 2 ≤ 64) where
        pub block_refused : (why : Refusal) → refusal why ≡ block_checks 0 clue → refusal why ≡ Space n clue
        unfolding clue_checks
        block_refused why b = rw (s, ne_eqb _ _ e, le-ltb _ _ h) (handed_up why (handed_up why b _) _)

        module _ (b : passed ≡ block_checks 0 clue) {space : ℕ} (m : space ≡ min_space gap (blocks clue)) where
          pub short_refused : n < space → refused 6 0 ≡ Space n clue
          unfolding clue_checks
          short_refused l = rw (s, ne_eqb _ _ e, le-ltb _ _ h, ← b, ← m, lt-ltb _ _ l)

          pub clue_accepted : space ≤ n → accepted space ≡ Space n clue
          unfolding clue_checks
          clue_accepted l = rw (s, ne_eqb _ _ e, le-ltb _ _ h, ← b, ← m, le-ltb _ _ l)

-- what the check looks for at a clue
pub ruleset clue_checking = (size_refused, odd_refused, many_refused, block_refused, short_refused, clue_accepted)

pub size_within : (n : ℕ) → off_size n ≡ false → n ≤ 64
size_within n e = ltb-false 64 n (neither (eqb n 0) (ltb 64 n) e).1

pub record ClueOk (n : ℕ) (clue : List ℕ) (space : ℕ) : Type 0 where
  pub most : n ≤ 64
  pub few : length clue / 2 ≤ 64
  pub passes : passed ≡ clue_checks n clue
  pub space_is : space ≡ min_space gap (blocks clue)
  pub fits : space ≤ n

pub clue_ok : (n : ℕ) (clue : List ℕ) {space : ℕ} → accepted space ≡ Space n clue → ClueOk n clue space
unfolding clue_checks
clue_ok n clue t =
    let found = accepted_first _ (clue_checks n clue) t in
    let e = found.0 in
    let a = refuse_accepted (off_size n) _ _ _ e in
    let b = refuse_accepted (eqb (length clue % 2) 1) _ _ _ a.1 in
    let c = refuse_accepted (ltb 64 (length clue / 2)) _ _ _ b.1 in
    let d = refuse_accepted (ltb n (min_space gap (blocks clue))) _ _ _ (then_accepted (block_checks 0 clue) _ c.1) in
    record {
      most = size_within n a.0;
      few = ltb-false _ _ c.0;
      passes = e;
      space_is = found.1;
      fits = omega (arith, found.1, ltb-false n (min_space gap (blocks clue)) d.0);
    }

-- a clue whose blocks have sizes and colours lacks nothing but room
pub proper_checks : (i : ℕ) (bs : List Block) → Proper bs → ((b : ℕ) → b < length bs → (block_at bs b).color ≤ 31) → block_checks i (words bs) ≡ passed
unfolding words block_checks
proper_checks i [] p c = refl
proper_checks i (b ∷ bs) p c =
    rw (ne_eqb b.size 0 (λ e. omega (arith, p.sizes 0 (omega arith))), ne_eqb b.color 0 (λ e. omega (arith, p.colors 0 (omega arith))), le-ltb 31 b.color (c 0 (omega arith)))
    (proper_checks (i + 2) bs (record { sizes = λ k h. p.sizes (suc k) (omega arith); colors = λ k h. p.colors (suc k) (omega arith) }) (λ k h. c (suc k) (omega arith)))

pub proper_clue : (n : ℕ) (bs : List Block) → off_size n ≡ false → length bs ≤ 64 → Proper bs → ((b : ℕ) → b < length bs → (block_at bs b).color ≤ 31)
    → clue_checks n (words bs) ≡ refuse (ltb n (min_space gap bs)) 6 0 passed
unfolding clue_checks
proper_clue n bs s few p c =
    let odd : length (words bs) % 2 ≡ 1 → ⊥ = λ e. omega (arith, words_length bs) in
    let half : length (words bs) / 2 ≤ 64 = omega (arith, words_length bs) in
    rw (s, ne_eqb _ _ odd, le-ltb _ _ half, proper_checks 0 bs p c, blocks_words bs)

-- ---- a line

module _ (line : List ℕ) where
  pub length_refused : off_size (length line) ≡ true → refused 2 0 ≡ line_checks line
  unfolding line_checks
  length_refused s = rw s

  pub length_passed : off_size (length line) ≡ false → byte_checks line ≡ line_checks line
  unfolding line_checks
  length_passed s = rw s

-- every byte of an accepted line is a colour or blank
pub bytes_ok : (line : List ℕ) → passed ≡ byte_checks line → (i : ℕ) → i < length line → get_or line i 0 ≤ 31
bytes_ok line e i h = ltb-false 31 (get_or line i 0) (none_off 0 (ltb 31) 18 0 line e i h)

-- ---- the bytes that a walk has passed, and one that none of them exceeds

pub record Topped (line : List ℕ) (most i : ℕ) : Type 0 where
  pub within : i ≤ length line
  pub below : (k : ℕ) → k < i → get_or line k 0 ≤ most

pub topped_first : (line : List ℕ) → Topped line 0 0
topped_first line = record { within = omega arith; below = λ k l. absurd (omega arith) }

module _ {line : List ℕ} {most i : ℕ} (T : Topped line most i) where
  pub topped_next : i < length line → {m : ℕ} → most ≤ m → get_or line i 0 ≤ m → Topped line m (i + 1)
  topped_next h {m} a b = record {
    within = omega arith;
    below = λ k l. elim (ℕ_discrete k i) [
      | yes e ↦ rw e b
      | no e ↦ omega (arith, T.below k (omega arith))
    ];
  }

  pub topped_done : length line ≤ i → (k : ℕ) → k < length line → get_or line k 0 ≤ most
  topped_done h k l = T.below k (omega arith)

-- all are colours
pub bytes_passed : (line : List ℕ) {most : ℕ} → ((k : ℕ) → k < length line → get_or line k 0 ≤ most) → most ≤ 31 → passed ≡ byte_checks line
bytes_passed line b h = sym (off_none 0 (ltb 31) 18 0 line (λ k l. le-ltb 31 (get_or line k 0) (omega (arith, b k l))))
