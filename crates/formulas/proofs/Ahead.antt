-- The second walk, over words among which none is wrong: what is ahead of it, and what a turn finds there.
use mathlib.Core.Path.{◌≡◌, refl, sym, ap, ◌∙◌}
use mathlib.Core.Bool.{false}
use mathlib.Core.List.{List, [], ◌∷◌, ◌++◌, flatten, flat_map}
use Prim.Native.Nat.{ℕ, zero, suc, ◌-◌, ◌≤◌, ◌<◌}
use native.Mathlib.Omega.{arith}
use lib.IntN.{ℤ, pos, nat_abs}
use lib.ListN.{length, take, drop, length-append, length-drop}
use lib.Seq.{take_at, drop_at}
use Rattle.literals.specs.Literals.{is_negative}
use Rattle.sections.specs.Sections.{Clause, sections_words}
use Rattle.formulas.specs.Clauses.{Formed, clauses_from, clauses_ahead, clauses_in, Ahead, ahead_words}
use Rattle.formulas.specs.OneProof.{next_clause, next_section, none_ahead}

-- ---- the clauses in sections' words are theirs

clauses_in_ahead : (k : ℕ) (cs : List Clause) (ss : List (List Clause)) → length (ahead_words cs ss) ≤ k → clauses_from k (length cs) (ahead_words cs ss) ≡ cs ++ flatten ss
unfolding clauses_from flatten
clauses_in_ahead zero [] [] h = refl
clauses_in_ahead (suc k) [] [] h = rw none_ahead
clauses_in_ahead zero [] (s ∷ ss) h = absurd (omega (arith, ap length (next_section s ss)))
clauses_in_ahead zero (c ∷ cs) ss h = absurd (omega (arith, ap length (next_clause c cs ss)))
clauses_in_ahead (suc k) [] (s ∷ ss) h = rw (next_section s ss) (clauses_in_ahead k s ss (omega (arith, ap length (next_section s ss))))
clauses_in_ahead (suc k) (c ∷ cs) ss h =
    rw (
      next_clause c cs ss,
      take_at c (ahead_words cs ss) (length c) refl,
      drop_at c (ahead_words cs ss) (length c) refl,
      clauses_in_ahead k cs ss (omega (arith, ap length (next_clause c cs ss), length-append c (ahead_words cs ss))),
    )

pub clauses_in_words : (ss : List (List Clause)) → clauses_in (sections_words ss) ≡ flatten ss
unfolding clauses_in flat_map
clauses_in_words ss = clauses_in_ahead (length (sections_words ss)) [] ss (omega arith)

-- ---- what the walk finds

pub ahead_first : {ws : List ℤ} → Formed ws → Ahead 0 ws
unfolding flat_map
ahead_first F = record { begun = []; behind = F.sections; words_are = F.words_are; left_is = refl }

ahead_is : {left : ℕ} {ws : List ℤ} (A : Ahead left ws) (k : ℕ) → length ws ≤ k → clauses_from k left ws ≡ A.begun ++ flatten A.behind
ahead_is A k h = rw (A.left_is, A.words_are) (clauses_in_ahead k A.begun A.behind (omega (arith, h, ap length A.words_are)))

-- any bound on the counts is enough
any_bound : {left : ℕ} {ws : List ℤ} → Ahead left ws → (k : ℕ) → length ws ≤ k → clauses_from k left ws ≡ clauses_ahead left ws
any_bound {ws = ws} A k h = ahead_is A k h ∙ sym (ahead_is A (length ws) (omega arith))

-- a clause, of n literals, and what is behind it
pub record ClauseAhead (left : ℕ) (ws rest : List ℤ) (n : ℕ) : Type 0 where
  pub within : n ≤ length rest
  pub ahead : Ahead (left - 1) (drop n rest)
  pub clauses_are : clauses_ahead left ws ≡ take n rest ∷ clauses_ahead (left - 1) (drop n rest)

module _ {left : ℕ} {ws rest : List ℤ} {z : ℤ} (A : Ahead left ws) (e : ws ≡ z ∷ rest) where
  -- the next word is a count
  pub ahead_count : is_negative z ≡ false
  ahead_count = go A.begun A.behind (sym e ∙ A.words_are)
    where
      go : (cs : List Clause) (ss : List (List Clause)) → z ∷ rest ≡ ahead_words cs ss → is_negative z ≡ false
      go [] [] w = absurd (omega (arith, ap length (w ∙ none_ahead)))
      go [] (s ∷ ss) w = let t = w ∙ next_section s ss in let q : z ≡ pos (length s) = cc in rw q
      go (c ∷ cs) ss w = let t = w ∙ next_clause c cs ss in let q : z ≡ pos (length c) = cc in rw q

  module _ {w : ℤ} (i : w ≡ z) {n : ℕ} (h : n ≡ nat_abs w) where
    m : n ≡ nat_abs z
    m = rw i at h

    -- of a section's clauses
    pub ahead_section : left ≡ 0 → Ahead n rest × (clauses_ahead n rest ≡ clauses_ahead left ws)
    unfolding clauses_from
    ahead_section o = (go A.begun A.behind (sym e ∙ A.words_are) A.left_is, rw (o, e, m))
      where
        go : (cs : List Clause) (ss : List (List Clause)) → z ∷ rest ≡ ahead_words cs ss → left ≡ length cs → Ahead n rest
        go [] [] w l = absurd (omega (arith, ap length (w ∙ none_ahead)))
        go [] (s ∷ ss) w l =
            let t = w ∙ next_section s ss in
            let q : z ≡ pos (length s) = cc in
            record { begun = s; behind = ss; words_are = cc; left_is = m ∙ ap nat_abs q }
        go (c ∷ cs) ss w l = absurd (omega arith)

    counted : (k : ℕ) → left ≡ suc k → clauses_ahead left ws ≡ take n rest ∷ clauses_from (length rest) k (drop n rest)
    unfolding clauses_from
    counted k s = rw (e, m, s)

    -- of a clause's literals
    pub ahead_clause : 0 < left → ClauseAhead left ws rest n
    ahead_clause o = go A.begun (sym e ∙ A.words_are) A.left_is
      where
        go : (cs : List Clause) → z ∷ rest ≡ ahead_words cs A.behind → left ≡ length cs → ClauseAhead left ws rest n
        go [] w l = absurd (omega arith)
        go (c ∷ cs) w l =
            let t = w ∙ next_clause c cs A.behind in
            let q : z ≡ pos (length c) = cc in
            let d : rest ≡ c ++ ahead_words cs A.behind = cc in
            let p : n ≡ length c = m ∙ ap nat_abs q in
            let b : Ahead (left - 1) (drop n rest) = record { begun = cs; behind = A.behind; words_are = rw (d, p) (drop_at c (ahead_words cs A.behind) (length c) refl); left_is = omega arith } in
            record {
              within = omega (arith, ap length d, length-append c (ahead_words cs A.behind));
              ahead = b;
              clauses_are = counted (left - 1) (omega arith) ∙ ap (λ cs. take n rest ∷ cs) (any_bound b (length rest) (omega (arith, length-drop n rest)));
            }

-- nothing
pub ahead_done : (left : ℕ) (ws : List ℤ) → length ws ≡ 0 → clauses_ahead left ws ≡ []
unfolding clauses_from
ahead_done left [] h = refl
ahead_done left (z ∷ ws) h = absurd (omega arith)
