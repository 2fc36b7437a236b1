-- The loop that makes words of bytes.
use mathlib.Core.Path.{◌≡◌, refl, ap, ◌∙◌}
use mathlib.Core.List.{List, [], ◌∷◌}
use Prim.Native.Nat.{ℕ, zero, suc, ◌+◌, ◌*◌, ◌/◌, ◌≤◌, ◌<◌}
use native.Mathlib.Omega.{arith}
use native.Mathlib.Nat.{add-zero}
use lib.ListN.{length, take, drop, get_or, set}
use lib.Seq.{get_or-take, get_or-drop, drop-drop}
use Rattle.std.specs.Simd.{first_chunks}
use Rattle.lists.specs.Wrote.{Wrote}
use Rattle.lists.proofs.Eaches.{length_tab}
use Rattle.lists.proofs.Emitting.{Emitting, emit_first, emit_room, emit_next, emit_done}
use Rattle.lists.proofs.Writing.{wrote_store}
use Rattle.lists.specs.Each.{each, tab}
use Rattle.encoding.specs.Encode.{words_of}
use Rattle.lists.proofs.Fronts.{front_size}

-- word i, and what turn i writes
abbrev word_value : List ℕ → ℕ → ℕ
word_value bytes i = get_or bytes (4 * i) 0 + 256 * get_or bytes (4 * i + 1) 0 + 65536 * get_or bytes (4 * i + 2) 0 + 16777216 * get_or bytes (4 * i + 3) 0

abbrev pub word_at : List ℕ → ℕ → List ℕ
word_at bytes i = word_value bytes i ∷ []

-- what four bytes are
abbrev number_of : List ℕ → ℕ
number_of chunk = get_or chunk 0 0 + 256 * get_or chunk 1 0 + 65536 * get_or chunk 2 0 + 16777216 * get_or chunk 3 0

chunk_at : (n i : ℕ) (bytes : List ℕ) → i < n → get_or (first_chunks 4 n bytes) i [] ≡ take 4 (drop (4 * i) bytes)
chunk_at zero i bytes h = absurd (omega arith)
chunk_at (suc n) zero bytes h = refl
chunk_at (suc n) (suc i) bytes h =
    let e : 4 + 4 * i ≡ 4 * suc i = omega arith in
    chunk_at n i (drop 4 bytes) (omega arith) ∙ ap (take 4) (drop-drop (4 * i) 4 bytes) ∙ ap (λ k. take 4 (drop k bytes)) e

byte_at : (bytes : List ℕ) (i j : ℕ) → j < 4 → get_or (take 4 (drop (4 * i) bytes)) j 0 ≡ get_or bytes (4 * i + j) 0
byte_at bytes i j l = get_or-take 4 (drop (4 * i) bytes) j 0 l ∙ get_or-drop (4 * i) bytes j 0

number_at : (bytes : List ℕ) (i : ℕ) → i < length bytes / 4 → number_of (get_or (first_chunks 4 (length bytes / 4) bytes) i []) ≡ word_value bytes i
number_at bytes i h = rw (chunk_at (length bytes / 4) i bytes h, byte_at bytes i 0 (omega arith), byte_at bytes i 1 (omega arith), byte_at bytes i 2 (omega arith), byte_at bytes i 3 (omega arith), add-zero)

words_each : (bytes : List ℕ) → words_of bytes ≡ each (length bytes / 4) (word_at bytes)
unfolding words_of tab
words_each bytes = refl

words_many : (bytes : List ℕ) → length (words_of bytes) ≡ length bytes / 4
unfolding words_of
words_many bytes = length_tab (length bytes / 4) _

module _ (bytes : List ℕ) where
  pub words_first : (out : List ℕ) → length bytes / 4 ≤ length out → Emitting (length bytes / 4) (word_at bytes) out 0 out 0 0
  words_first out h = emit_first (length bytes / 4) (word_at bytes) out 0 (omega (arith, words_many bytes, ap length (words_each bytes)))

  module _ {out₀ out : List ℕ} {i : ℕ} (E : Emitting (length bytes / 4) (word_at bytes) out₀ 0 out i i) where
    pub words_next : i < length bytes / 4 → {chunks : List (List ℕ)} → chunks ≡ first_chunks 4 (length bytes / 4) bytes → {w : ℕ} → w ≡ number_of (get_or chunks i [])
        → Emitting (length bytes / 4) (word_at bytes) out₀ 0 (set out i w) (i + 1) (i + 1)
    words_next h e {w} w-is =
        let s : w ≡ word_value bytes i = w-is ∙ rw e (number_at bytes i h) in
        emit_next E h (rw (← s) (wrote_store out i _ (omega (arith, emit_room E h))))

    pub words_done : length bytes / 4 ≤ i → Wrote (words_of bytes) out₀ 0 out (length bytes / 4)
    words_done h = let e : i ≡ length bytes / 4 = omega (arith, E.within) in rw (words_each bytes) (rw e at (emit_done E h))

  -- how many they are
  pub words_count : {out out₁ : List ℕ} {n : ℕ} → Wrote (words_of bytes) out 0 out₁ n → n ≡ length bytes / 4
  words_count w = front_size w ∙ words_many bytes
