use lib.IntN.{pos}
use Rattle.models.proofs.Negating.{blocking_wrote, trues_negated}
use Rattle.checker.proofs.Counting.{trues_most}
use Rattle.literals.proofs.Words.{word_is}
use Rattle.truth.specs.Truth.{value}
use mathlib.Core.Path.{◌∙◌, ap}
use native.Mathlib.Omega.{arith}
use Rattle.models.proofs.block.write_blocking.Goals as goal

pub count_word-requires : goal.count_word-requires
count_word-requires c = omega (arith, c.requires.v_nonzero, c.requires.count_value.0, trues_negated (value c.args.model.now) c.args.v c.args.n, trues_most (value c.args.model.now) c.args.v c.args.n)

pub returns : goal.returns
returns c = blocking_wrote _ _ _ _ (omega (arith, c.requires.count_value)) (word_is c.count_word.result c.count_word.type_inv ∙ c.count_word.ensures ∙ ap pos c.requires.count_value.0) c.put_negated-to.ensures
