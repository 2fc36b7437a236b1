-- The laws of `each`.
use mathlib.Core.Path.{◌≡◌, refl, sym, ap, ◌∙◌}
use mathlib.Core.List.{List, [], ◌∷◌, ◌++◌, append_assoc, append-nil, flat_map}
use Prim.Native.Nat.{ℕ, zero, suc, ◌+◌, ◌-◌, ◌*◌, ◌≤◌, ◌<◌}
use native.Mathlib.Omega.{arith}
use native.Mathlib.Nat.{add-zero, add-suc, zero-mul, suc-mul}
use native.Mathlib.Decide.{ℕ_discrete, dec_le}
use native.Mathlib.Numerals.{one-add}
use lib.ListN.{length, get_or, length-append, get_or-append}
use lib.Seq.{get_or_at}
use Rattle.lists.specs.Each.{each, tab}

module _ {A : Type 0} where
  pub each_plus : (m n : ℕ) (f : ℕ → List A) → each (m + n) f ≡ each m f ++ each n (λ k. f (m + k))
  unfolding each
  each_plus m zero f = rw add-zero (sym (append-nil (each m f)))
  each_plus m (suc n) f = rw (add-suc, each_plus m n f, append_assoc)

  pub each_same : (n : ℕ) (f g : ℕ → List A) → ((k : ℕ) → k < n → f k ≡ g k) → each n f ≡ each n g
  unfolding each
  each_same zero f g h = refl
  each_same (suc n) f g h = rw (each_same n f g (λ k l. h k (omega arith)), h n (omega arith))

  -- what a loop that stands at i still has to do
  unfoldable pub rest : ℕ → ℕ → (ℕ → List A) → List A
  rest i n f = each (n - i) (λ k. f (i + k))

  pub rest_first : (n : ℕ) (f : ℕ → List A) → each n f ≡ rest 0 n f
  unfolding rest
  rest_first n f =
      let e : n ≡ n - 0 = omega arith in
      ap (λ (m : ℕ). each m f) e ∙ each_same (n - 0) f (λ k. f (0 + k)) (λ k l. ap f (omega arith))

  pub rest_next : (i n : ℕ) (f : ℕ → List A) → i < n → rest i n f ≡ f i ++ rest (i + 1) n f
  unfolding rest each
  rest_next i n f h =
      let e : n - i ≡ 1 + (n - (i + 1)) = omega arith in
      rw (e, each_plus 1 (n - (i + 1)) (λ k. f (i + k)), add-zero)
      (ap (λ (l : List A). f i ++ l) (each_same (n - (i + 1)) (λ k. f (i + (1 + k))) (λ k. f (i + 1 + k)) (λ k l. ap f (omega arith))))

  pub rest_done : (i n : ℕ) (f : ℕ → List A) → n ≤ i → rest i n f ≡ []
  unfolding rest each
  rest_done i n f h =
      let e : n - i ≡ 0 = omega arith in
      rw e

  -- the first turn, and the others
  each_front : (n : ℕ) (f : ℕ → List A) → each (suc n) f ≡ f 0 ++ each n (λ k. f (suc k))
  unfolding each
  each_front n f =
      ap (λ (m : ℕ). each m f) (sym (one-add n)) ∙ each_plus 1 n f ∙ ap (λ (l : List A). f 0 ++ l) (each_same n (λ k. f (1 + k)) (λ k. f (suc k)) (λ k h. ap f (one-add k)))

  pub flat_append : {B : Type 0} (f : B → List A) (l m : List B) → flat_map f (l ++ m) ≡ flat_map f l ++ flat_map f m
  unfolding flat_map
  flat_append f [] m = refl
  flat_append f (b ∷ l) m = rw (flat_append f l m, append_assoc)

  -- a part for each element of a list
  pub flat_each : {B : Type 0} (d : B) (f : B → List A) (l : List B) → flat_map f l ≡ each (length l) (λ k. f (get_or l k d))
  unfolding flat_map
  flat_each d f [] = unfold each in refl
  flat_each d f (b ∷ l) = rw (flat_each d f l) (sym (each_front (length l) (λ k. f (get_or (b ∷ l) k d))))

  -- ---- lengths

  pub each_length : (n m : ℕ) (f : ℕ → List A) → ((k : ℕ) → length (f k) ≡ m) → length (each n f) ≡ n * m
  unfolding each
  each_length zero m f h = sym (zero-mul m)
  each_length (suc n) m f h = omega (arith, length-append (each n f) (f n), h n, each_length n m f h, suc-mul n m)

  -- ---- the list of one element for each number

  pub length_tab : (n : ℕ) (f : ℕ → A) → length (tab n f) ≡ n
  unfolding tab each
  length_tab zero f = refl
  length_tab (suc n) f = rw (length-append) (omega (arith, length_tab n f))

  pub get_or_tab : (n : ℕ) (f : ℕ → A) (d : A) (t : ℕ) → t < n → get_or (tab n f) t d ≡ f t
  unfolding tab each
  get_or_tab zero f d t h = absurd (omega arith)
  get_or_tab (suc n) f d t h = elim (ℕ_discrete t n) [
    | yes e ↦ rw e (get_or_at (tab n f) (f n) [] d n (length_tab n f))
    | no e ↦ get_or-append (tab n f) _ d t (omega (arith, length_tab n f)) ∙ get_or_tab n f d t (omega arith)
  ]

  pub tab_same : (n : ℕ) (f g : ℕ → A) → ((k : ℕ) → k < n → f k ≡ g k) → tab n f ≡ tab n g
  unfolding tab
  tab_same n f g h = each_same n _ _ (λ k l. rw (h k l))

-- ---- parts that are empty

module _ {A : Type 0} where
  each_none : (n : ℕ) (f : ℕ → List A) → ((k : ℕ) → k < n → f k ≡ []) → each n f ≡ []
  unfolding each
  each_none zero f h = refl
  each_none (suc n) f h = rw (each_none n f (λ k l. h k (omega arith)), h n (omega arith))

  -- the parts from s on are all there are
  pub each_late : (s n : ℕ) (f : ℕ → List A) → ((k : ℕ) → k < s → f k ≡ []) → each n f ≡ each (n - s) (λ k. f (s + k))
  unfolding each
  each_late s n f h = elim (dec_le s n) [
    | yes l ↦
        let e : n ≡ s + (n - s) = omega arith in
        ap (λ (m : ℕ). each m f) e ∙ each_plus s (n - s) f ∙ rw (each_none s f h)
    | no l ↦
        let e : n - s ≡ 0 = omega arith in
        rw e (each_none n f (λ k i. h k (omega arith)))
  ]

  -- the parts before m are all there are
  pub each_early : (m n : ℕ) (f g : ℕ → List A) → m ≤ n → ((k : ℕ) → k < m → f k ≡ g k) → ((k : ℕ) → m ≤ k → f k ≡ []) → each n f ≡ each m g
  each_early m n f g l here none =
      let e : n ≡ m + (n - m) = omega arith in
      ap (λ (k : ℕ). each k f) e ∙ each_plus m (n - m) f ∙ rw (each_none (n - m) (λ k. f (m + k)) (λ k i. none (m + k) (omega arith)), append-nil) (each_same m f g here)
