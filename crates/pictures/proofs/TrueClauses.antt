-- What makes clauses true. A list's meaning is put together as the list is: all of its clauses for `Satisfies`, some of its literals for `Holds`.
use mathlib.Core.Path.{◌≡◌, refl, sym, ap, ◌∙◌}
use mathlib.Core.Logic.Iff
use mathlib.Core.Logic.{◌↔◌, ◌⊎◌, inl, inr}
use mathlib.Core.Bool.{Bool, true, false, not, cond, ◌&&◌, ◌||◌, and-true, and_assoc, or_assoc, or_comm, or-false, false≢true}
use mathlib.Core.List.{List, [], ◌∷◌, ◌++◌, map}
use Prim.Native.Nat.{ℕ, zero, suc, ◌+◌, ◌-◌, ◌<◌}
use native.Mathlib.Omega.{arith}
use native.Mathlib.Decide.{ℕ_discrete}
use lib.ListN.{length, get_or}
use Rattle.lists.specs.Each.{each, tab, pairs, product, when}
use Rattle.lists.proofs.Tests.{both, not_true}
use Rattle.literals.specs.Literals.{positive, negative}
use Rattle.sections.specs.Sections.{Clause, not_both, at_least_one, at_most_one}
use Rattle.truth.specs.Truth.{Assignment, literal_true, clause_true, all_true, Satisfies}
use Rattle.pictures.specs.Meaning.{NotBoth}

-- the clause is true
abbrev pub Holds : Assignment → Clause → Type 0
Holds β c = clause_true β c ≡ true

-- ---- what holds of all, or of some, below a number

module _ {P : ℕ → Type 0} (n : ℕ) where
  all_below : (((i : ℕ) → i < n → P i) × P n) ↔ ((i : ℕ) → i < suc n → P i)
  all_below = (
    λ h i l. elim (ℕ_discrete i n) [ yes q ↦ rw q h.1 | no q ↦ h.0 i (omega arith) ],
    λ h. (λ i l. h i (omega arith), h n (omega arith)),
  )

  all_above : (P 0 × ((i : ℕ) → i < n → P (suc i))) ↔ ((i : ℕ) → i < suc n → P i)
  all_above = (to, λ h. (h 0 (omega arith), λ i l. h (suc i) (omega arith)))
    where
      to : P 0 × ((i : ℕ) → i < n → P (suc i)) → (i : ℕ) → i < suc n → P i
      to h zero l = h.0
      to h (suc i) l = h.1 i (omega arith)

  some_below : (((i : ℕ) × (i < n) × P i) ⊎ P n) ↔ ((i : ℕ) × (i < suc n) × P i)
  some_below = (to, λ h. elim (ℕ_discrete h.0 n) [ yes q ↦ inr (rw q at h.2) | no q ↦ inl (h.0, omega (arith, h.1), h.2) ])
    where
      to : ((i : ℕ) × (i < n) × P i) ⊎ P n → (i : ℕ) × (i < suc n) × P i
      to (inl h) = (h.0, omega (arith, h.1), h.2)
      to (inr h) = (n, omega arith, h)

module _ (β : Assignment) where
  -- ---- all clauses of a list

  all_append : (a b : List Clause) → all_true β (a ++ b) ≡ (all_true β a && all_true β b)
  unfolding all_true
  all_append [] b = refl
  all_append (c ∷ a) b = rw (all_append a b) (sym (and_assoc (clause_true β c) (all_true β a) (all_true β b)))

  pub none_means : Satisfies β [] ↔ Unit {0}
  unfolding all_true
  none_means = (λ h. tt, λ h. refl)

  pub one_means : (c : Clause) {P : Type 0} → Holds β c ↔ P → Satisfies β (c ∷ []) ↔ P
  unfolding all_true
  one_means c e = rw (and-true (clause_true β c)) e

  pub append_means : (a b : List Clause) {P Q : Type 0} → Satisfies β a ↔ P → Satisfies β b ↔ Q → Satisfies β (a ++ b) ↔ (P × Q)
  append_means a b d e =
      rw (all_append a b) (λ h. let t = both (all_true β a) (all_true β b) h in (d.0 t.0, e.0 t.1), λ h. rw (d.1 h.0) (e.1 h.1))

  pub cond_means : (b : Bool) (a c : List Clause) {P Q : Type 0} → Satisfies β a ↔ P → Satisfies β c ↔ Q → Satisfies β (cond b a c) ↔ ((b ≡ true → P) × (b ≡ false → Q))
  cond_means true a c d e = (λ h. (λ _. d.0 h, λ q. absurd (false≢true (sym q))), λ h. d.1 (h.0 refl))
  cond_means false a c d e = (λ h. (λ q. absurd (false≢true q), λ _. e.0 h), λ h. e.1 (h.1 refl))

  pub when_means : (b : Bool) (a : List Clause) {P : Type 0} → Satisfies β a ↔ P → Satisfies β (when b a) ↔ (b ≡ true → P)
  unfolding all_true
  when_means true a e = (λ h _. e.0 h, λ h. e.1 (h refl))
  when_means false a e = (λ h q. absurd (false≢true q), λ h. refl)

  pub each_means : (n : ℕ) (f : ℕ → List Clause) {P : ℕ → Type 0} → ((i : ℕ) → i < n → Satisfies β (f i) ↔ P i) → Satisfies β (each n f) ↔ ((i : ℕ) → i < n → P i)
  unfolding each all_true
  each_means zero f e = (λ h i l. absurd (omega arith), λ h. refl)
  each_means (suc n) f e = Iff.trans (append_means (each n f) (f n) (each_means n f (λ i l. e i (omega arith))) (e n (omega arith))) (all_below n)

  pub tab_means : (n : ℕ) (f : ℕ → Clause) {P : ℕ → Type 0} → ((i : ℕ) → i < n → Holds β (f i) ↔ P i) → Satisfies β (tab n f) ↔ ((i : ℕ) → i < n → P i)
  unfolding tab
  tab_means n f e = each_means n _ (λ i l. one_means (f i) (e i l))

  pub map_means : {A : Type 0} (f : A → Clause) (l : List A) (d : A) {P : ℕ → Type 0} → ((i : ℕ) → i < length l → Holds β (f (get_or l i d)) ↔ P i)
      → Satisfies β (map f l) ↔ ((i : ℕ) → i < length l → P i)
  unfolding all_true
  map_means f [] d e = (λ h i l. absurd (omega arith), λ h. refl)
  map_means f (a ∷ l) d e =
      Iff.trans (append_means (f a ∷ []) (map f l) (one_means (f a) (e 0 (omega arith))) (map_means f l d (λ i k. e (suc i) (omega arith)))) (all_above (length l))

  module _ (n : ℕ) (f : ℕ → ℕ → List Clause) {P : ℕ → ℕ → Type 0} where
    pub pairs_means : ((i j : ℕ) → i < j → j < n → Satisfies β (f i j) ↔ P i j) → Satisfies β (pairs n f) ↔ ((i j : ℕ) → i < j → j < n → P i j)
    unfolding pairs
    pairs_means e =
        Iff.trans (each_means n _ (λ i _. each_means (n - suc i) _ (λ k l. e i (suc i + k) (omega arith) (omega arith))))
        (λ h i j l m. let q : suc i + (j - suc i) ≡ j = omega arith in rw q at (h i (omega arith) (j - suc i) (omega arith)), λ h i _ k l. h i (suc i + k) (omega arith) (omega arith))

    pub product_means : ((i j : ℕ) → i < n → j < n → Satisfies β (f i j) ↔ P i j) → Satisfies β (product n f) ↔ ((i j : ℕ) → i < n → j < n → P i j)
    unfolding product
    product_means e = Iff.trans (each_means n _ (λ i l. each_means n _ (λ j m. e i j l m))) (λ h i j l. h i l j, λ h i l j. h i j l)

  -- ---- some literal of a clause

  some_append : (a b : Clause) → clause_true β (a ++ b) ≡ (clause_true β a || clause_true β b)
  unfolding clause_true
  some_append [] b = refl
  some_append (l ∷ a) b = rw (some_append a b) (sym (or_assoc (literal_true β l) (clause_true β a) (clause_true β b)))

  pub either_means : (a b : Clause) {P Q : Type 0} → Holds β a ↔ P → Holds β b ↔ Q → Holds β (a ++ b) ↔ (P ⊎ Q)
  either_means a b {P} {Q} d e = rw (some_append a b) (cases (clause_true β a) (clause_true β b) d e)
    where
      cases : (x y : Bool) → (x ≡ true) ↔ P → (y ≡ true) ↔ Q → ((x || y) ≡ true) ↔ (P ⊎ Q)
      cases true y d e = (λ h. inl (d.0 h), λ h. refl)
      cases false y d e = (λ h. inr (e.0 h), λ h. elim h [ inl p ↦ absurd (false≢true (d.1 p)) | inr q ↦ e.1 q ])

  pub some_when_means : (b : Bool) (c : Clause) {P : Type 0} → Holds β c ↔ P → Holds β (when b c) ↔ ((b ≡ true) × P)
  unfolding clause_true
  some_when_means true c e = (λ h. (refl, e.0 h), λ h. e.1 h.1)
  some_when_means false c e = (λ h. absurd (false≢true h), λ h. absurd (false≢true h.0))

  pub some_each_means : (n : ℕ) (f : ℕ → Clause) {P : ℕ → Type 0} → ((i : ℕ) → i < n → Holds β (f i) ↔ P i) → Holds β (each n f) ↔ ((i : ℕ) × (i < n) × P i)
  unfolding each clause_true
  some_each_means zero f e = (λ h. absurd (false≢true h), λ h. absurd (omega (arith, h.1)))
  some_each_means (suc n) f e = Iff.trans (either_means (each n f) (f n) (some_each_means n f (λ i l. e i (omega arith))) (e n (omega arith))) (some_below n)

  -- ---- literals

  pub yes_means : (v : ℕ) → Holds β (positive v ∷ []) ↔ (β v ≡ true)
  unfolding clause_true literal_true
  yes_means v = rw (or-false (β v)) Iff.rfl

  negative_true : (v : ℕ) → 0 < v → literal_true β (negative v) ≡ not (β v)
  unfolding literal_true
  negative_true zero h = absurd (omega arith)
  negative_true (suc v) h = refl

  module _ (v : ℕ) (h : 0 < v) where
    pub no_means : Holds β (negative v ∷ []) ↔ (β v ≡ false)
    unfolding clause_true
    no_means = rw (negative_true v h, or-false (not (β v))) (not_true (β v), ap not)

    -- -v before a clause: if v, then the clause
    pub if_means : (c : Clause) {P : Type 0} → Holds β c ↔ P → Holds β (negative v ∷ c) ↔ (β v ≡ true → P)
    unfolding clause_true
    if_means c {P} e = rw (negative_true v h) (cases (β v))
      where
        cases : (x : Bool) → ((not x || clause_true β c) ≡ true) ↔ (x ≡ true → P)
        cases true = (λ h _. e.0 h, λ h. e.1 (h refl))
        cases false = (λ h q. absurd (false≢true q), λ h. refl)

    -- or behind it
    pub if_last_means : (c : Clause) {P : Type 0} → Holds β c ↔ P → Holds β (c ++ (negative v ∷ [])) ↔ (β v ≡ true → P)
    if_last_means c e = rw turned (if_means c e)
      where
        turned : clause_true β (c ++ (negative v ∷ [])) ≡ clause_true β (negative v ∷ c)
        turned = unfold clause_true in some_append c (negative v ∷ []) ∙ rw (or-false (literal_true β (negative v))) (or_comm (clause_true β c) (literal_true β (negative v)))

  -- ---- clauses about variables

  pub not_both_means : (u v : ℕ) → 0 < u → 0 < v → Holds β (not_both u v) ↔ NotBoth β u v
  unfolding clause_true
  not_both_means u v h k = if_means u h (negative v ∷ []) (if_means v k [] (false≢true, absurd))

  pub least_means : (v n : ℕ) → Holds β (at_least_one v n) ↔ ((i : ℕ) × (i < n) × (β (v + i) ≡ true))
  unfolding at_least_one tab
  least_means v n = some_each_means n _ (λ i _. yes_means (v + i))

  pub most_means : (v n : ℕ) → 0 < v → Satisfies β (at_most_one v n) ↔ ((i j : ℕ) → i < j → j < n → NotBoth β (v + i) (v + j))
  unfolding at_most_one
  most_means v n h = pairs_means n _ (λ i j _ _. one_means (not_both (v + i) (v + j)) (not_both_means (v + i) (v + j) (omega arith) (omega arith)))
