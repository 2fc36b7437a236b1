-- A line's cells, one at a time, as the loops walk them.
use mathlib.Core.Path.{◌≡◌, refl, sym, ap, ◌∙◌}
use mathlib.Core.Bool.{Bool, true, false, cond, ◌||◌}
use mathlib.Core.List.{List, [], ◌∷◌, ◌++◌, append-nil}
use Prim.Native.Nat.{ℕ, ◌+◌, ◌*◌, ◌≤◌, ◌<◌}
use native.Mathlib.Omega.{arith}
use lib.ListN.{length, drop, get_or, length-append, drop_of_length-le}
use lib.Dec.{eqb}
use lib.Seq.{ext_get_or}
use borrow.Author.Tests.{eq-eqb, ne_eqb, eqb-true}
use Rattle.lists.specs.Each.{tab}
use Rattle.lists.specs.Wrote.{Wrote}
use Rattle.lists.proofs.Dropping.{drop_one}
use Rattle.lists.proofs.Eaches.{length_tab, get_or_tab, tab_same}
use Rattle.lists.proofs.Writing.{Filling, fill_first, fill_as, fill_room, fill_next, fill_done}
use Rattle.lines.specs.Clue.{Block, words}
use Rattle.runs.specs.Begins.{begins}
use Rattle.lines.specs.Line.{run, runs_from, runs}
use Rattle.runs.specs.Strided.{strided, Strided}
use Rattle.lines.specs.Calls.{line_words}

-- ---- a run and its words

pub run_blank : (size c : ℕ) → c ≡ 0 → words (run size c) ≡ []
unfolding run words
run_blank size c e = rw (eq-eqb _ _ e)

pub run_some : (size c : ℕ) → (c ≡ 0 → ⊥) → words (run size c) ≡ size ∷ c ∷ []
unfolding run words
run_some size c n = rw (ne_eqb _ _ n)

words_append : (a b : List Block) → words (a ++ b) ≡ words a ++ words b
unfolding words
words_append [] b = refl
words_append (x ∷ a) b = rw (words_append a b)

-- ---- the runs, a cell at a time

module _ (size c : ℕ) (l : List ℕ) (i : ℕ) where
  runs_same : i < length l → get_or l i 0 ≡ c → runs_from size c (drop i l) ≡ runs_from (size + 1) c (drop (i + 1) l)
  unfolding runs_from
  runs_same h e = rw (drop_one 0 l i h, eq-eqb _ _ e)

  runs_next : i < length l → (get_or l i 0 ≡ c → ⊥) → words (runs_from size c (drop i l)) ≡ words (run size c) ++ words (runs_from 1 (get_or l i 0) (drop (i + 1) l))
  unfolding runs_from
  runs_next h n = rw (drop_one 0 l i h, ne_eqb _ _ n) (words_append (run size c) (runs_from 1 (get_or l i 0) (drop (i + 1) l)))

  runs_done : length l ≤ i → runs_from size c (drop i l) ≡ run size c
  unfolding runs_from
  runs_done h = rw (drop_of_length-le l h)

-- ---- how many words: two for each cell that begins a run, where the cell before the list has colour c

unfoldable pub begun : ℕ → List ℕ → ℕ
begun c [] = 0
begun c (x ∷ l) = cond (eqb x c || eqb x 0) 0 2 + begun x l

run_words : (size c : ℕ) → length (words (run size c)) ≡ cond (eqb c 0) 0 2
unfolding run words
run_words size c = go (eqb c 0) refl
  where
    go : (b : Bool) → eqb c 0 ≡ b → length (words (run size c)) ≡ cond b 0 2
    go true e = rw e
    go false e = rw e

runs_words : (size c : ℕ) (l : List ℕ) → length (words (runs_from size c l)) ≡ cond (eqb c 0) 0 2 + begun c l
unfolding runs_from begun
runs_words size c [] = omega (arith, run_words size c)
runs_words size c (x ∷ l) = go (eqb x c) refl (runs_words (size + 1) c l) (runs_words 1 x l)
  where
    go : (b : Bool) → eqb x c ≡ b → length (words (runs_from (size + 1) c l)) ≡ cond (eqb c 0) 0 2 + begun c l
        → length (words (runs_from 1 x l)) ≡ cond (eqb x 0) 0 2 + begun x l
        → length (words (runs_from size c (x ∷ l))) ≡ cond (eqb c 0) 0 2 + begun c (x ∷ l)
    go true e same next = rw (e, eqb-true x c e) (omega (arith, same))
    go false e same next = rw (e, words_append (run size c) (runs_from 1 x l), length-append) (omega (arith, run_words size c, next))

pub line_begun : (line : List ℕ) → length (line_words line) ≡ begun 0 line
unfolding line_words runs
line_begun line = runs_words 0 0 line ∙ omega arith

pub two_begins : (c x : ℕ) → cond (eqb x c || eqb x 0) 0 2 ≡ 2 * begins c x
unfolding begins
two_begins c x = go (eqb x c || eqb x 0)
  where
    go : (b : Bool) → cond b 0 2 ≡ 2 * cond b 0 1
    go true = refl
    go false = refl

pub record Counting (line : List ℕ) (count c i : ℕ) : Type 0 where
  pub within : i ≤ length line
  pub few : count ≤ i
  pub counted : length (line_words line) ≡ 2 * count + begun c (drop i line)

pub counting_first : (line : List ℕ) → Counting line 0 0 0
counting_first line = record { within = omega arith; few = omega arith; counted = line_begun line ∙ omega arith }

module _ {line : List ℕ} {count c i : ℕ} (C : Counting line count c i) where
  module _ (h : i < length line) where
    begun_next : begun c (drop i line) ≡ cond (eqb (get_or line i 0) c || eqb (get_or line i 0) 0) 0 2 + begun (get_or line i 0) (drop (i + 1) line)
    unfolding begun
    begun_next = rw (drop_one 0 line i h)

    pub counting_next : {k : ℕ} → k ≡ begins c (get_or line i 0) → k ≤ 1 → Counting line (count + k) (get_or line i 0) (i + 1)
    counting_next e l = record { within = omega arith; few = omega (arith, C.few); counted = omega (arith, C.counted, begun_next, two_begins c (get_or line i 0)) }

  pub counting_done : length line ≤ i → 2 * count ≡ length (line_words line)
  unfolding begun
  counting_done h = sym (C.counted ∙ rw (drop_of_length-le line h) (omega arith))

-- ---- the loop that writes the runs

pub record Running (line out₀ : List ℕ) (at₀ : ℕ) (out : List ℕ) (at size c i : ℕ) : Type 0 where
  pub within : i ≤ length line
  pub small : size ≤ i
  pub fill : Filling (line_words line) out₀ at₀ (words (runs_from size c (drop i line))) out at

pub running_first : (line out : List ℕ) (at : ℕ) → at + length (line_words line) ≤ length out → Running line out at out at 0 0 0
unfolding line_words runs
running_first line out at h = record { within = omega arith; small = omega arith; fill = fill_first _ out at h refl }

module _ {line out₀ out : List ℕ} {at₀ at size c i : ℕ} (R : Running line out₀ at₀ out at size c i) where
  -- the next cell has colour x
  module _ (h : i < length line) {x : ℕ} (e : get_or line i 0 ≡ x) where
    pub running_same : x ≡ c → Running line out₀ at₀ out at (size + 1) c (i + 1)
    running_same s = record { within = omega arith; small = omega arith; fill = fill_as R.fill (ap words (runs_same size c line i h (e ∙ s))) }

    module _ (n : x ≡ c → ⊥) where
      next : words (runs_from size c (drop i line)) ≡ words (run size c) ++ words (runs_from 1 x (drop (i + 1) line))
      next = runs_next size c line i h (λ s. n (sym e ∙ s)) ∙ rw e

      pub running_room : at + length (words (run size c)) ≤ length out
      running_room = fill_room R.fill (words (run size c)) (words (runs_from 1 x (drop (i + 1) line))) next

      pub running_next : {at' : ℕ} {out' : List ℕ} → Wrote (words (run size c)) out at out' at' → Running line out₀ at₀ out' at' 1 x (i + 1)
      running_next w = record { within = omega arith; small = omega arith; fill = fill_next R.fill _ _ next w }

  -- the last run
  module _ (h : length line ≤ i) where
    last : words (runs_from size c (drop i line)) ≡ words (run size c) ++ []
    last = ap words (runs_done size c line i h) ∙ sym (append-nil (words (run size c)))

    pub running_room_last : at + length (words (run size c)) ≤ length out
    running_room_last = fill_room R.fill (words (run size c)) [] last

    pub running_done : {at' : ℕ} {out' : List ℕ} → Wrote (words (run size c)) out at out' at' → Wrote (line_words line) out₀ at₀ out' at'
    running_done w = fill_done (fill_next R.fill _ [] last w) refl

-- ---- the cells of a line that lies in a longer list

module _ (from step n : ℕ) (cells : List ℕ) where
  pub strided_length : length (strided from step n cells) ≡ n
  unfolding strided
  strided_length = length_tab n _

  pub strided_in : {i : ℕ} → i < n → i < length (strided from step n cells)
  strided_in h = omega (arith, strided_length)

  pub strided_out : {i : ℕ} → n ≤ i → length (strided from step n cells) ≤ i
  strided_out h = omega (arith, strided_length)

  pub strided_cell : (i : ℕ) → i < n → get_or (strided from step n cells) i 0 ≡ get_or cells (i * step + from) 0
  unfolding strided
  strided_cell i h = get_or_tab n _ 0 i h

-- a line of its own
-- its cells by another way to say their places
pub strided_is : (from step n : ℕ) (cells : List ℕ) (f : ℕ → ℕ) → ((t : ℕ) → t < n → t * step + from ≡ f t) → strided from step n cells ≡ tab n (λ t. get_or cells (f t) 0)
unfolding strided
strided_is from step n cells f e = tab_same n _ _ (λ t h. ap (λ (k : ℕ). get_or cells k 0) (e t h))

pub strided_whole : (line : List ℕ) → strided 0 1 (length line) line ≡ line
strided_whole line = ext_get_or 0 _ line (strided_length 0 1 (length line) line) (λ i h.
    strided_cell 0 1 (length line) line i (omega (arith, strided_length 0 1 (length line) line))
    ∙ ap (λ (k : ℕ). get_or line k 0) (omega arith))

pub whole_strided : (line : List ℕ) → length line ≤ 64 → Strided 0 1 (length line) line
whole_strided line h = record { few = h; small = omega arith; inside = λ t l. omega arith }
