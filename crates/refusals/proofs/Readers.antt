-- What a reader reads: exactly the words of something fine, and such words are read as that.
use mathlib.Core.Path.{◌≡◌, refl, sym, ap, ap₂, ◌∙◌}
use mathlib.Core.Bool.{Bool, false}
use mathlib.Core.List.{List, [], ◌∷◌, ◌++◌, append_assoc, append-nil}
use Prim.Native.Nat.{ℕ, zero, suc, ◌+◌, ◌≤◌, ◌<◌}
use native.Mathlib.Omega.{arith}
use native.Mathlib.Nat.{add-zero, add_assoc}
use lib.Dec.{ltb}
use lib.ListN.{length, length-append, get_or}
use borrow.Author.Tests.{ltb-false}
use Rattle.lists.specs.Each.{Every}
use Rattle.refusals.specs.Verdict.{passed}
use Rattle.refusals.specs.Walk.{Walk, got, stop, walked, read_or, word, times, counted}
use Rattle.refusals.proofs.Answering.{refuse_accepted}
use Rattle.refusals.proofs.Walking.{same_got, stop_if_got, next_got}

-- what was read at place i are the words W of it, and it is fine
pub record Reads {B A : Type 0} (W : A → List B) (Fine : A → Type 0) (i : ℕ) (ws : List B) (a : A) (j : ℕ) (us : List B) : Type 0 where
  pub words_are : ws ≡ W a ++ us
  pub place_is : j ≡ i + length (W a)
  pub fine : Fine a

module _ {B A : Type 0} {W : A → List B} {Fine : A → Type 0} where
  pub reads_as : {i j k : ℕ} {ws us vs : List B} {a b : A} → got a j us ≡ got b k vs → Reads W Fine i ws a j us → Reads W Fine i ws b k vs
  reads_as e r = let s = same_got e in rw (← s.0, ← s.1, ← s.2) r

  -- accepted words, of which none is left over, are the words of what was read
  pub walked_is : (a : A) (k : ℕ) {i : ℕ} {ws : List B} (w : Walk B A) → ((b : A) (j : ℕ) (us : List B) → w ≡ got b j us → Reads W Fine i ws b j us) → passed ≡ walked k w
      → (ws ≡ W (read_or a w)) × Fine (read_or a w)
  unfolding walked read_or
  walked_is a k (got b j us) only e =
      let r = refuse_accepted (ltb 0 (length us)) _ _ _ e in
      let R = only b j us refl in
      let l = ltb-false 0 (length us) r.0 in
      (R.words_are ∙ whole us (W b) l, R.fine)
    where
      whole : (us vs : List B) → length us ≤ 0 → vs ++ us ≡ vs
      whole [] vs l = append-nil vs
      whole (u ∷ us) vs l = absurd (omega arith)
  walked_is a k (stop n p) only e = let z : ◌≡◌ {A = ℕ} 0 1 = cc in absurd (omega arith)

pub record Reader {B A : Type 0} (f : ℕ → List B → Walk B A) (W : A → List B) (Fine : A → Type 0) : Type 0 where
  pub only : (i : ℕ) (ws : List B) (a : A) (j : ℕ) (us : List B) → f i ws ≡ got a j us → Reads W Fine i ws a j us
  pub back : (i : ℕ) (a : A) (us : List B) → Fine a → f i (W a ++ us) ≡ got a (i + length (W a)) us

-- ---- a word

module _ {B : Type 0} (n : ℕ) (off : B → Bool) (k : ℕ) where
  word_only : (i : ℕ) (ws : List B) (x : B) (j : ℕ) (us : List B) → word n off k i ws ≡ got x j us → Reads (λ x. x ∷ []) (λ x. off x ≡ false) i ws x j us
  unfolding word
  word_only i [] x j us e = let z : ◌≡◌ {A = ℕ} 0 1 = cc in absurd (omega arith)
  word_only i (y ∷ ws) x j us e =
      let q = stop_if_got (off y) _ _ _ e in
      reads_as q.1 (record { words_are = refl; place_is = refl; fine = q.0 })

  word_back : (i : ℕ) (x : B) (us : List B) → off x ≡ false → word n off k i (x ∷ us) ≡ got x (i + 1) us
  unfolding word
  word_back i x us o = rw o

  pub word_reader : Reader (word n off k) (λ x. x ∷ []) (λ x. off x ≡ false)
  word_reader = record { only = word_only; back = word_back }

-- ---- n of them

module _ {B A : Type 0} (d : A) {f : ℕ → List B → Walk B A} {W : A → List B} {Fine : A → Type 0} (R : Reader f W Fine) (all : List A → List B)
    (none : all [] ≡ []) (some : (a : A) (l : List A) → all (a ∷ l) ≡ W a ++ all l) where
  abbrev Many : ℕ → List A → Type 0
  Many n l = (length l ≡ n) × Every d Fine l

  times_only : (n i : ℕ) (ws : List B) (l : List A) (j : ℕ) (us : List B) → times n f i ws ≡ got l j us → Reads all (Many n) i ws l j us
  unfolding times
  times_only zero i ws l j us e =
      reads_as e
      (record { words_are = rw none; place_is = rw none (sym (add-zero i)); fine = (refl, λ k h. absurd (omega arith)) })
  times_only (suc n) i ws l j us e =
      let p = next_got (f i ws) _ e in
      let q = next_got (times n f p.place p.left) _ p.then in
      let one = R.only i ws p.value p.place p.left p.got_is in
      let more = times_only n p.place p.left q.value q.place q.left q.got_is in
      reads_as q.then
      (record {
        words_are = one.words_are ∙ rw (some p.value q.value, append_assoc, ← more.words_are);
        place_is = omega (arith, one.place_is, more.place_is, ap length (some p.value q.value), length-append (W p.value) (all q.value));
        fine = (omega (arith, more.fine.0), λ k. elim k as (λ k. k < length (p.value ∷ q.value) → Fine (get_or (p.value ∷ q.value) k d)) [ zero ↦ λ h. one.fine | suc k ↦ λ h. more.fine.1 k (omega arith) ]);
      })

  times_back : (n i : ℕ) (l : List A) (us : List B) → Many n l → times n f i (all l ++ us) ≡ got l (i + length (all l)) us
  unfolding times
  times_back zero i [] us e = rw (none, add-zero)
  times_back zero i (a ∷ l) us e = absurd (omega (arith, e.0))
  times_back (suc n) i [] us e = absurd (omega (arith, e.0))
  times_back (suc n) i (a ∷ l) us e =
      rw (some a l, append_assoc, R.back i a (all l ++ us) (e.1 0 (omega arith)), times_back n (i + length (W a)) l us (omega (arith, e.0), λ k h. e.1 (suc k) (omega arith)), length-append, add_assoc)

  pub times_reader : (n : ℕ) → Reader (times n f) all (Many n)
  times_reader n = record { only = times_only n; back = times_back n }

  -- ---- after their count, whose word is mk of it

  module _ {size : B → ℕ} (mk : ℕ → B) (size-mk : (n : ℕ) → size (mk n) ≡ n) (m : ℕ) {off : B → Bool} (mk-size : (x : B) → off x ≡ false → x ≡ mk (size x)) (k : ℕ) where
    counted_only : (i : ℕ) (ws : List B) (l : List A) (j : ℕ) (us : List B) → counted size (word m off k) f i ws ≡ got l j us
        → Reads (λ l. mk (length l) ∷ all l) (λ l. (off (mk (length l)) ≡ false) × Every d Fine l) i ws l j us
    unfolding counted
    counted_only i ws l j us e =
        let p = next_got (word m off k i ws) _ e in
        let c = word_only m off k i ws p.value p.place p.left p.got_is in
        let r = times_only (size p.value) p.place p.left l j us p.then in
        let x : p.value ≡ mk (length l) = mk-size p.value c.fine ∙ ap mk (sym r.fine.0) in
        record {
          words_are = c.words_are ∙ ap₂ ◌∷◌ x r.words_are;
          place_is = omega (arith, c.place_is, r.place_is);
          fine = (ap off (sym x) ∙ c.fine, r.fine.1);
        }

    counted_back : (i : ℕ) (l : List A) (us : List B) → (off (mk (length l)) ≡ false) × Every d Fine l
        → counted size (word m off k) f i (mk (length l) ∷ (all l ++ us)) ≡ got l (i + suc (length (all l))) us
    unfolding counted
    counted_back i l us e =
        let n : i + 1 + length (all l) ≡ i + suc (length (all l)) = omega arith in
        rw (word_back m off k i (mk (length l)) (all l ++ us) e.0, size-mk (length l), times_back (length l) (i + 1) l us (refl, e.1), n)

    pub counted_reader : Reader (counted size (word m off k) f) (λ l. mk (length l) ∷ all l) (λ l. (off (mk (length l)) ≡ false) × Every d Fine l)
    counted_reader = record { only = counted_only; back = counted_back }

    -- no count is off
    pub listed_reader : ((n : ℕ) → off (mk n) ≡ false) → Reader (counted size (word m off k) f) (λ l. mk (length l) ∷ all l) (Every d Fine)
    listed_reader on = record {
      only = λ i ws l j us e. let r = counted_only i ws l j us e in record { words_are = r.words_are; place_is = r.place_is; fine = r.fine.1 };
      back = λ i l us h. counted_back i l us (on (length l), h);
    }
