-- The laws of `Wrote`: a store, one writer after another, a loop, a tail that was lent.
use mathlib.Core.Path.{◌≡◌, refl, sym, ap, ◌∙◌}
use mathlib.Core.List.{List, [], ◌∷◌, ◌++◌, append_assoc, append-nil}
use Prim.Native.Nat.{ℕ, ◌+◌, ◌-◌, ◌≤◌, ◌<◌}
use native.Mathlib.Omega.{arith}
use native.Mathlib.Numerals.{add-one}
use native.Mathlib.Nat.{add-zero, zero-add, le_refl}
use lib.ListN.{length, take, drop, get_or, set, take-append-drop, length-append, length-drop, drop_of_length-le}
use lib.Seq.{take-suc, take_at, take-add, take-take, take-append-le, set_at, drop_at, drop-drop, length-take-le, take_all, get_or-take, get_or-drop, sets, sets-eq}
use borrow.Rule.Slice.PartMut.{put_mid}
use Rattle.lists.specs.Wrote.{Wrote, over}

module _ {A : Type 0} where
  pub wrote_none : (out : List A) (at : ℕ) → Wrote [] out at out at
  wrote_none out at = record { next_is = sym (add-zero at); left = sym (take-append-drop at out) }

  pub wrote_then : {us vs out out₁ out₂ : List A} {at at₁ at₂ : ℕ} → at ≤ length out
      → Wrote us out at out₁ at₁ → Wrote vs out₁ at₁ out₂ at₂ → Wrote (us ++ vs) out at out₂ at₂
  wrote_then {us} {vs} {out} {out₁} {out₂} {at} {at₁} {at₂} h w v =
      let n : length (take at out ++ us) ≡ at₁ = rw (length-append, length-take-le at out h) (sym w.next_is) in
      let e : out₁ ≡ (take at out ++ us) ++ drop at₁ out = w.left ∙ sym (append_assoc (take at out) us (drop at₁ out)) in
      record {
        next_is = rw length-append (omega (arith, w.next_is, v.next_is));
        left = v.left ∙ rw (v.next_is, e, take_at (take at out ++ us) (drop at₁ out) at₁ n, ← drop-drop (length vs) at₁ ((take at out ++ us) ++ drop at₁ out), drop_at (take at out ++ us) (drop at₁ out) at₁ n, drop-drop, append_assoc, append_assoc);
      }

  -- a row of stores
  pub wrote_sets : (ws out : List A) (at : ℕ) → at + length ws ≤ length out → Wrote ws out at (sets out at ws) (at + length ws)
  wrote_sets ws out at h = record { next_is = refl; left = sets-eq ws out at h ∙ append_assoc (take at out) ws (drop (at + length ws) out) }

  pub wrote_store : (out : List A) (at : ℕ) (a : A) → at < length out → Wrote (a ∷ []) out at (set out at a) (at + 1)
  wrote_store out at a h = wrote_sets (a ∷ []) out at (omega arith)

  -- a store, and then what follows it
  pub wrote_after : (out : List A) (at : ℕ) (a : A) → at < length out → {ws out₁ : List A} {at₁ : ℕ} → Wrote ws (set out at a) (at + 1) out₁ at₁ → Wrote (a ∷ ws) out at out₁ at₁
  wrote_after out at a h w = wrote_then (omega arith) (wrote_store out at a h) w

  -- a store before what was written
  pub wrote_ahead : (out : List A) (at : ℕ) (a : A) → at < length out → {ws out₁ : List A} {at₁ : ℕ} → Wrote ws out (at + 1) out₁ at₁ → Wrote (a ∷ ws) out at (set out₁ at a) at₁
  wrote_ahead out at a h {ws} {out₁} {at₁} w =
      let more = ws ++ drop at₁ out in
      let e : out₁ ≡ take at out ++ (get_or out at a ∷ more) = w.left ∙ rw (add-one at, take-suc out at a h, append_assoc) in
      record {
        next_is = omega (arith, w.next_is);
        left = rw e (set_at (take at out) (get_or out at a) more a at (length-take-le at out (omega arith)));
      }

  -- a writer keeps the buffer's length
  pub wrote_kept : {ws out out₁ : List A} {at at₁ : ℕ} → at + length ws ≤ length out → Wrote ws out at out₁ at₁ → length out₁ ≡ length out
  wrote_kept {ws} {out} {out₁} {at} {at₁} h w =
      ap length w.left ∙ rw (length-append, length-append, length-drop, length-take-le at out (omega arith)) (omega (arith, w.next_is))

  part_of : (k n : ℕ) (l : List A) → k ≤ length l → take n (drop k l) ≡ drop k (take (k + n) l)
  part_of k n l h = sym (rw (take-add k n l) (drop_at (take k l) (take n (drop k l)) k (length-take-le k l h)))

  -- what was written stands there
  pub wrote_there : {ws out out₁ : List A} {at at₁ : ℕ} → at ≤ length out → Wrote ws out at out₁ at₁ → take (length ws) (drop at out₁) ≡ ws
  wrote_there {ws} {out} {out₁} {at} {at₁} h w =
      ap (λ (l : List A). take (length ws) (drop at l)) w.left
      ∙ rw (drop_at (take at out) (ws ++ drop at₁ out) at (length-take-le at out h)) (take_at ws (drop at₁ out) (length ws) refl)

  pub wrote_at : {ws out out₁ : List A} {at at₁ : ℕ} → at ≤ length out → Wrote ws out at out₁ at₁ → (i : ℕ) (d : A) → i < length ws → get_or out₁ (at + i) d ≡ get_or ws i d
  wrote_at {ws} {out} {out₁} {at} {at₁} h w i d l =
      sym (get_or-drop at out₁ i d) ∙ sym (get_or-take (length ws) (drop at out₁) i d l) ∙ ap (λ (k : List A). get_or k i d) (wrote_there h w)

  -- and what stood before it is as it was
  pub wrote_before : {ws out out₁ : List A} {at at₁ : ℕ} → at ≤ length out → Wrote ws out at out₁ at₁ → (k n : ℕ) → k + n ≤ at → take n (drop k out₁) ≡ take n (drop k out)
  wrote_before {ws} {out} {out₁} {at} {at₁} h w k n b =
      let front : take (k + n) out₁ ≡ take (k + n) out =
      ap (take (k + n)) w.left ∙ take-append-le (k + n) (take at out) _ (omega (arith, length-take-le at out h)) ∙ take-take (k + n) at out b in
      let long : at ≤ length out₁ = omega (arith, ap length w.left, length-append (take at out) (ws ++ drop at₁ out), length-take-le at out h) in
      part_of k n out₁ (omega arith) ∙ ap (drop k) front ∙ sym (part_of k n out (omega arith))

  -- from the front on
  pub wrote_over : {ws out out₁ : List A} {at₁ : ℕ} → Wrote ws out 0 out₁ at₁ → out₁ ≡ over ws out
  unfolding over
  wrote_over {ws} {out} w = w.left ∙ ap (λ (n : ℕ). ws ++ drop n out) (w.next_is ∙ zero-add (length ws))

  -- ---- a tail that was lent, `f(&mut out[at..])`

  pub tail_is : (out : List A) (at : ℕ) → take (length out - at) (drop at out) ≡ drop at out
  tail_is out at = take_all (length out - at) (drop at out) (rw length-drop (le_refl _))

  pub wrote_tail : {ws out tail₁ : List A} {at used : ℕ} → Wrote ws (take (length out - at) (drop at out)) 0 tail₁ used
      → Wrote ws out at (put_mid at (length out - at) out tail₁) (at + used)
  wrote_tail {ws} {out} {tail₁} {at} {used} w =
      let n : used ≡ length ws = w.next_is ∙ zero-add (length ws) in
      record {
        next_is = ap (λ (k : ℕ). at + k) n;
        left = rw (drop_of_length-le (drop at out) {i = length out - at} (rw length-drop (le_refl _)), append-nil)
            (ap (λ (l : List A). take at out ++ l) (w.left ∙ rw (tail_is out at, drop-drop)));
      }

  -- a front that was lent, `&mut out[..n]`, and filled
  pub wrote_at_front : (ws out : List A) (n : ℕ) → n ≡ length ws → Wrote ws out 0 (ws ++ drop n out) n
  wrote_at_front ws out n e = record { next_is = rw (e, zero-add); left = refl }

  -- a part that was lent, `&mut out[at..at + n]`, and filled
  pub wrote_part : (ws out : List A) (at n : ℕ) → length ws ≡ n → Wrote ws out at (put_mid at n out ws) (at + n)
  wrote_part ws out at n e = record { next_is = rw e; left = ap (λ (l : List A). take at out ++ (ws ++ l)) (drop-drop n at out) }

  -- ---- a loop that writes: what is done, and the rest, are the whole

  pub record Filling (whole out₀ : List A) (at₀ : ℕ) (rest out : List A) (at : ℕ) : Type 0 where
    pub done : List A
    pub split : whole ≡ done ++ rest
    pub wrote : Wrote done out₀ at₀ out at
    pub room : at₀ + length whole ≤ length out₀

  pub fill_first : (whole out : List A) (at : ℕ) → at + length whole ≤ length out → {rest : List A} → whole ≡ rest → Filling whole out at rest out at
  fill_first whole out at h e = record { done = []; split = e; wrote = wrote_none out at; room = h }

  module _ {whole out₀ rest out : List A} {at₀ at : ℕ} (F : Filling whole out₀ at₀ rest out at) where
    fill_size : length whole ≡ length F.done + length rest
    fill_size = ap length F.split ∙ length-append F.done rest

    pub fill_kept : length out ≡ length out₀
    fill_kept = wrote_kept (omega (arith, fill_size, F.room)) F.wrote

    -- there is room for what comes next
    pub fill_room : (ws more : List A) → rest ≡ ws ++ more → at + length ws ≤ length out
    fill_room ws more e = omega (arith, fill_size, F.room, fill_kept, F.wrote.next_is, ap length e, length-append ws more)

    -- it is written
    pub fill_next : (ws more : List A) → rest ≡ ws ++ more → {out₁ : List A} {at₁ : ℕ} → Wrote ws out at out₁ at₁ → Filling whole out₀ at₀ more out₁ at₁
    fill_next ws more e w = record {
      done = F.done ++ ws;
      split = F.split ∙ rw (e, append_assoc);
      wrote = wrote_then (omega (arith, F.room)) F.wrote w;
      room = F.room;
    }

    -- the same rest, put otherwise
    pub fill_as : {more : List A} → rest ≡ more → Filling whole out₀ at₀ more out at
    fill_as e = rw e at F

    -- nothing is left
    pub fill_done : rest ≡ [] → Wrote whole out₀ at₀ out at
    fill_done e = rw (F.split, e, append-nil) F.wrote

  -- a loop that stores one element in a turn
  module _ {whole out₀ more out : List A} {at₀ at : ℕ} {a : A} (F : Filling whole out₀ at₀ (a ∷ more) out at) where
    pub fill_space : at < length out
    fill_space = omega (arith, fill_room F (a ∷ []) more refl)

    pub fill_store : Filling whole out₀ at₀ more (set out at a) (at + 1)
    fill_store = fill_next F (a ∷ []) more refl (wrote_store out at a fill_space)
