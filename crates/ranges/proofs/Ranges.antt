-- The colour ranges, a block at a time and a colour at a time.
use mathlib.Core.Path.{◌≡◌, refl, ap, ◌∙◌}
use mathlib.Core.List.{List, [], ◌∷◌}
use Prim.Native.Nat.{ℕ, ◌+◌, ◌-◌, ◌≤◌, ◌<◌}
use native.Mathlib.Omega.{arith}
use lib.ListN.{length, drop}
use borrow.Author.Tests.{eq-eqb, ne_eqb}
use Rattle.std.specs.Prelude.{Option, Some, None, IfSome}
use Rattle.lists.specs.Each.{each}
use Rattle.lists.specs.Wrote.{Wrote}
use Rattle.lists.proofs.Eaches.{each_length}
use Rattle.lists.proofs.Emitting.{Emitting, emit_room}
use Rattle.lines.specs.Clue.{Run, end, blocks, gap, packed_from, packed, last_end, min_space, positions, of_color, range}
use Rattle.lines.specs.Calls.{ranges_words}
use Rattle.ranges.specs.Spanned.{spanned}
use Rattle.ranges.specs.declared.range.Span.{Span}
use Rattle.lines.proofs.ClueWords.{NextBlock, Walk, walk_first, walk_next, walk_low, walk_run, walk_end}

-- what the range becomes, where R are the runs still to come, and a span is that of those before
pub shown : ℕ → Option Span → List Run → List ℕ
shown slack None R = range slack R
shown slack (Some span) R = span.start ∷ (last_end span.end R + slack) ∷ []

-- the span ends by `at`
abbrev Low : Option Span → ℕ → Type 0
Low span at = IfSome span (λ s. s.end ≤ at)

pub record Spanning (clue : List ℕ) (k : ℕ) (span : Option Span) (at c b : ℕ) : Type 0 where
  pub walk : Walk clue at c b
  pub low : Low span at
  pub spans : (slack : ℕ) → range slack (of_color k (packed gap (blocks clue))) ≡ shown slack span (of_color k (packed_from gap at c (drop b (blocks clue))))

pub spanning_first : (clue : List ℕ) (k : ℕ) → Spanning clue k None 0 0 0
unfolding shown packed
spanning_first clue k = record { walk = walk_first clue; low = tt; spans = λ slack. refl }

of_next : (k : ℕ) (r : Run) (R : List Run) → r.color ≡ k → of_color k (r ∷ R) ≡ r ∷ of_color k R
unfolding of_color
of_next k r R e = rw (eq-eqb _ _ e)

of_other : (k : ℕ) (r : Run) (R : List Run) → (r.color ≡ k → ⊥) → of_color k (r ∷ R) ≡ of_color k R
unfolding of_color
of_other k r R n = rw (ne_eqb _ _ n)

low_later : (span : Option Span) {at later : ℕ} → at ≤ later → Low span at → Low span later
low_later None h l = tt
low_later (Some s) h l = omega (arith, h, l)

-- the span with one run more
with_run : Option Span → Run → Span
with_run None r = record { start = r.start; end = end r }
with_run (Some s) r = record { start = s.start; end = end r }

shown_next : (slack : ℕ) (span : Option Span) (r : Run) (R : List Run) → shown slack span (r ∷ R) ≡ shown slack (Some (with_run span r)) R
unfolding shown range last_end with_run
shown_next slack None r R = refl
shown_next slack (Some s) r R = refl

module _ {clue : List ℕ} {k : ℕ} {span : Option Span} {at c b : ℕ} (S : Spanning clue k span at c b) where
  module _ {size color g : ℕ} (h : NextBlock (blocks clue) b size color) (e : g ≡ gap c color) where
    next : Run
    next = record { start = at + g; size = size; color = color }

    more : List Run
    more = packed_from gap (at + g + size) color (drop (b + 1) (blocks clue))

    split : packed_from gap at c (drop b (blocks clue)) ≡ next ∷ more
    unfolding next more
    split = walk_run S.walk h ∙ rw e

    pub spanning_walk : Walk clue (at + g + size) color (b + 1)
    spanning_walk = rw e (walk_next S.walk h)

    pub spanning_other : (color ≡ k → ⊥) → Spanning clue k span (at + g + size) color (b + 1)
    unfolding next more
    spanning_other n = record {
      walk = spanning_walk;
      low = low_later span (omega arith) S.low;
      spans = λ slack. S.spans slack ∙ ap (λ (R : List Run). shown slack span R) (ap (λ (R : List Run). of_color k R) split ∙ of_other k next more n);
    }

    spanning_met : color ≡ k → Spanning clue k (Some (with_run span next)) (at + g + size) color (b + 1)
    unfolding next more with_run
    spanning_met m = record {
      walk = spanning_walk;
      low = ends span;
      spans = λ slack. S.spans slack ∙ ap (λ (R : List Run). shown slack span R) (ap (λ (R : List Run). of_color k R) split ∙ of_next k next more m) ∙ shown_next slack span next (of_color k more);
    }
      where
        ends : (span : Option Span) → (with_run span next).end ≤ at + g + size
        ends None = omega arith
        ends (Some s) = omega arith

    pub spanning_found : span ≡ None → color ≡ k → Spanning clue k (Some (record { start = at + g; end = at + g + size })) (at + g + size) color (b + 1)
    unfolding with_run next
    spanning_found n m = rw n at (spanning_met m)

    pub spanning_later : {found : Span} → span ≡ Some found → color ≡ k → Spanning clue k (Some (record { start = found.start; end = at + g + size })) (at + g + size) color (b + 1)
    unfolding with_run next
    spanning_later n m = rw n at (spanning_met m)

  pub spanning_done : drop b (blocks clue) ≡ [] → (slack : ℕ) → range slack (of_color k (packed gap (blocks clue))) ≡ spanned slack span
  unfolding of_color shown range last_end
  spanning_done h slack = S.spans slack ∙ rw (walk_end S.walk h) (go span)
    where
      go : (span : Option Span) → shown slack span [] ≡ spanned slack span
      go None = refl
      go (Some s) = refl

  pub spanning_low : IfSome span (λ s. s.end ≤ min_space gap (blocks clue))
  spanning_low = low_later span (walk_low S.walk) S.low

-- ---- the loop over the colours

range_length : (slack : ℕ) (R : List Run) → length (range slack R) ≡ 2
unfolding range
range_length slack [] = refl
range_length slack (r ∷ R) = refl

pub ranges_length : (slack : ℕ) (R : List Run) → length (each 31 (λ k. range slack (of_color (k + 1) R))) ≡ 62
ranges_length slack R = each_length 31 2 (λ k. range slack (of_color (k + 1) R)) (λ k. range_length slack (of_color (k + 1) R))

-- there is room for the next pair
pub pair_room : (slack : ℕ) (R : List Run) {out₀ out : List ℕ} {at₀ at k : ℕ} → Emitting 31 (λ k. range slack (of_color (k + 1) R)) out₀ at₀ out at k → k < 31 → at + 2 ≤ length out
pair_room slack R {k = k} E h = omega (arith, emit_room E h, range_length slack (of_color (k + 1) R))

-- ---- what the range call writes

pub ranges_words_length : (n : ℕ) (clue : List ℕ) → length (ranges_words n clue) ≡ 62
unfolding ranges_words
ranges_words_length n clue = ranges_length (positions gap n (blocks clue) - 1) (packed gap (blocks clue))

pub ranges_wrote : (n : ℕ) (clue : List ℕ) {out out' : List ℕ} {p space used : ℕ} → p ≡ n - space + 1 → space ≡ min_space gap (blocks clue)
    → Wrote (each 31 (λ k. range (p - 1) (of_color (k + 1) (packed gap (blocks clue))))) out 0 out' used → Wrote (ranges_words n clue) out 0 out' used
unfolding ranges_words positions
ranges_wrote n clue e m w = rw (← m, ← e) w
