use Prim.Native.Nat.{◌/◌}
use lib.ListN.{length}
use Rattle.lists.proofs.Emitting.{Emitting}
use Rattle.encoding.proofs.InputWords.{word_at}
use Rattle.encoding.proofs.words.read_words.Given as goal

abbrev pub invariant-loop-i : goal.invariant-loop-i
invariant-loop-i l = Emitting (length l.bytes / 4) (word_at l.bytes) l.initial.out 0 l.out l.i l.i
