-- The readers of blocks and clues go on.
use Rattle.std.specs.Prelude.{ltb, eqb}
use Rattle.walks.specs.Onward.{Onward}
use Rattle.walks.proofs.Onwards.{word_onward, got_onward, then_onward, counted_onward}
use Rattle.lines.specs.Calls.{off_color}
use Rattle.puzzles.specs.Walk.{read_block, read_clue}

pub block_onward : Onward read_block
unfolding read_block
block_onward = then_onward (word_onward 1 (λ n. eqb n 0) 4) (λ size. then_onward (word_onward 1 off_color 5) (λ color. got_onward (record { size = size; color = color })))

pub clue_onward : Onward read_clue
clue_onward = counted_onward block_onward (λ n. n) (word_onward 1 (ltb 64) 3)
