-- The text can be read back: a number ends at the first byte that is no digit, a line at its newline. So no two formulas have one text.
use mathlib.Core.Path.{◌≡◌, refl, sym, ap, ap₂, ◌∙◌}
use mathlib.Core.List.{List, [], ◌∷◌, ◌++◌, append_assoc, flat_map}
use Prim.Native.Nat.{ℕ, suc, ◌<◌}
use native.Mathlib.Omega.{arith}
use lib.IntN.{ℤ, pos, negsuc}
use lib.ListN.{length, get_or, length-append, get_or-append}
use Rattle.sections.specs.Sections.{Clause}
use Rattle.dimacs.specs.Text.{digits, space, newline, literal_text, clause_text, clauses_text, problem, header, text}
use Rattle.dimacs.specs.Reading.{value_from, TextOnce}
use Rattle.dimacs.proofs.NumberText.{OnlyDigits, digits_only, digits_some, digits_value, digits_one}

-- ---- numbers

parted : (ds es : List ℕ) → OnlyDigits ds → OnlyDigits es → {b c : ℕ} {xs ys : List ℕ} → b < 48 → c < 48 → ds ++ (b ∷ xs) ≡ es ++ (c ∷ ys) → (ds ≡ es) × (b ≡ c) × (xs ≡ ys)
parted [] [] o p h l e = (refl, cc, cc)
parted [] (d ∷ es) o p {b} h l e = let q : b ≡ d = cc in absurd (omega (arith, p 0 (omega arith)))
parted (d ∷ ds) [] o p {b} {c} h l e = let q : d ≡ c = cc in absurd (omega (arith, o 0 (omega arith)))
parted (d ∷ ds) (f ∷ es) o p {b} {c} {xs} {ys} h l e =
    let q : d ≡ f = cc in
    let t : ds ++ (b ∷ xs) ≡ es ++ (c ∷ ys) = cc in
    let r = parted ds es (λ i g. o (suc i) (omega arith)) (λ i g. p (suc i) (omega arith)) h l t in
    (ap₂ ◌∷◌ q r.0, r.1, r.2)

-- behind each a byte that is no digit
numbers_parted : (n m : ℕ) {b c : ℕ} {xs ys : List ℕ} → b < 48 → c < 48 → digits n ++ (b ∷ xs) ≡ digits m ++ (c ∷ ys) → (n ≡ m) × (b ≡ c) × (xs ≡ ys)
numbers_parted n m h l e =
    let r = parted (digits n) (digits m) (digits_only n) (digits_only m) h l e in
    (sym (digits_value n) ∙ ap (value_from 0) r.0 ∙ digits_value m, r.1, r.2)

-- a number begins with no sign
no_sign : (n : ℕ) (xs ys : List ℕ) → digits n ++ xs ≡ 45 ∷ ys → ⊥
no_sign n xs ys e =
    let f : get_or (digits n) 0 0 ≡ 45 = sym (get_or-append (digits n) xs 0 0 (digits_some n)) ∙ ap (λ (l : List ℕ). get_or l 0 0) e in
    omega (arith, digits_only n 0 (digits_some n))

-- ---- literals and clauses

literals_parted : (k l : ℤ) {xs ys : List ℕ} → literal_text k ++ (space ∷ xs) ≡ literal_text l ++ (space ∷ ys) → (k ≡ l) × (xs ≡ ys)
unfolding literal_text
literals_parted (pos n) (pos m) e = let r = numbers_parted n m (omega arith) (omega arith) e in (ap pos r.0, r.2)
literals_parted (pos n) (negsuc m) e = absurd (no_sign n _ _ e)
literals_parted (negsuc n) (pos m) e = absurd (no_sign m _ _ (sym e))
literals_parted (negsuc n) (negsuc m) {xs} {ys} e =
    let t : digits (suc n) ++ (space ∷ xs) ≡ digits (suc m) ++ (space ∷ ys) = cc in
    let r = numbers_parted (suc n) (suc m) (omega arith) (omega arith) t in
    let q : n ≡ m = omega (arith, r.0) in
    (ap negsuc q, r.2)

-- the end of a clause is no literal
no_end : (l : ℤ) (xs ys : List ℕ) → 48 ∷ 10 ∷ xs ≡ literal_text l ++ (space ∷ ys) → ⊥
unfolding literal_text
no_end (pos n) xs ys e =
    let z : digits 0 ++ (10 ∷ xs) ≡ digits n ++ (space ∷ ys) = rw (digits_one 0 (omega arith)) e in
    let r = numbers_parted 0 n (omega arith) (omega arith) z in
    omega (arith, r.1)
no_end (negsuc n) xs ys e = let z : ◌≡◌ {A = ℕ} 48 45 = cc in omega arith

clauses_parted : (c d : Clause) {xs ys : List ℕ} → clause_text c ++ xs ≡ clause_text d ++ ys → (c ≡ d) × (xs ≡ ys)
unfolding clause_text
clauses_parted [] [] e = (refl, cc)
clauses_parted [] (l ∷ d) {xs} {ys} e = absurd (no_end l xs _ (e ∙ append_assoc (literal_text l) (space ∷ clause_text d) ys))
clauses_parted (k ∷ c) [] {xs} {ys} e = absurd (no_end k ys _ (sym e ∙ append_assoc (literal_text k) (space ∷ clause_text c) xs))
clauses_parted (k ∷ c) (l ∷ d) {xs} {ys} e =
    let p = literals_parted k l (sym (append_assoc (literal_text k) (space ∷ clause_text c) xs) ∙ e ∙ append_assoc (literal_text l) (space ∷ clause_text d) ys) in
    let r = clauses_parted c d p.1 in
    (ap₂ ◌∷◌ p.0 r.0, r.1)

-- ---- the whole

pub line_some : (c : Clause) → 0 < length (clause_text c)
unfolding clause_text
line_some [] = omega arith
line_some (l ∷ c) = omega (arith, length-append (literal_text l) (space ∷ clause_text c))

lines_once : (cs ds : List Clause) → clauses_text cs ≡ clauses_text ds → cs ≡ ds
unfolding flat_map
lines_once [] [] e = refl
lines_once [] (d ∷ ds) e = absurd (omega (arith, ap length e, length-append (clause_text d) (clauses_text ds), line_some d))
lines_once (c ∷ cs) [] e = absurd (omega (arith, ap length e, length-append (clause_text c) (clauses_text cs), line_some c))
lines_once (c ∷ cs) (d ∷ ds) e = let r = clauses_parted c d e in ap₂ ◌∷◌ r.0 (lines_once cs ds r.1)

opened : (v : ℕ) (cs : List Clause) → text v cs ≡ problem ++ (digits v ++ (space ∷ (digits (length cs) ++ (newline ∷ clauses_text cs))))
unfolding text header
opened v cs = rw (append_assoc (digits v), append_assoc (digits (length cs)))

pub text_once : TextOnce
text_once v w cs ds e =
    let f = sym (opened v cs) ∙ e ∙ opened w ds in
    let t : digits v ++ (space ∷ (digits (length cs) ++ (newline ∷ clauses_text cs))) ≡ digits w ++ (space ∷ (digits (length ds) ++ (newline ∷ clauses_text ds))) = cc in
    let n = numbers_parted v w (omega arith) (omega arith) t in
    let m = numbers_parted (length cs) (length ds) (omega arith) (omega arith) n.2 in
    (n.0, lines_once cs ds m.2)
