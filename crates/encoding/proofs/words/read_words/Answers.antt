use native.Mathlib.Omega.{arith}
use Rattle.encoding.proofs.InputWords.{words_first, words_next, words_done}
use Rattle.encoding.proofs.words.read_words.Goals as goal

pub loop-i-init : goal.loop-i-init
loop-i-init c = words_first c.args.bytes.now _ c.requires

pub loop-i-preserved : goal.loop-i-preserved
loop-i-preserved c = words_next c.args.bytes.now c.loop-i.invariant (omega arith) c.as_chunks.ensures.front c.word.ensures

pub returns : goal.returns
returns c = rw c.as_chunks.ensures.front_len (words_done c.args.bytes.now c.loop-i.invariant (omega arith))
