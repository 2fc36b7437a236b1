-- The readers of claims and probes go on.
use Rattle.std.specs.Prelude.{ℕ, ◌+◌, false, not, leb, ltb}
use Rattle.walks.specs.Onward.{Onward}
use Rattle.walks.proofs.Onwards.{word_onward, got_onward, stop_if_onward, next_onward, then_onward, counted_onward}
use Rattle.probes.specs.Probes.{read_claim, is_color, read_probe}

module _ (w h : ℕ) where
  pub claim_onward : Onward (read_claim w h)
  unfolding read_claim
  claim_onward =
      then_onward (word_onward 1 (leb w) 17)
      (λ x. then_onward (word_onward 1 (leb h) 17)
      (λ y. then_onward (word_onward 1 (ltb 31) 18)
      (λ c. got_onward (record { x = x; y = y; color = c }))))

  pub probe_onward : (K : ℕ) → Onward (read_probe w h K)
  unfolding read_probe
  probe_onward K =
      next_onward claim_onward (λ i p. stop_if_onward (not (is_color K p.color)) 19 (i + 2)
      (then_onward (counted_onward claim_onward (λ n. n) (word_onward 1 (λ n. false) 0)) (λ qs. got_onward (record { premise = p; impacts = qs }))))
