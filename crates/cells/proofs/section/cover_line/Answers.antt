use Rattle.cells.proofs.Asking.{found_variables, found_most}
use Rattle.numbering.proofs.Parts.{ready_sound}
use Rattle.cells.proofs.section.cover_line.Goals as goal

pub rule_clauses-requires-clause-are_variables : goal.rule_clauses-requires-clause-are_variables
rule_clauses-requires-clause-are_variables c = (found_variables (ready_sound _ _ c.args.lines.ready _ c.requires.l_bound.0) _ _ c.find_covering-n.ensures.1, c.requires.l_bound.1)

pub rule_clauses-requires-clause-found_len_bound : goal.rule_clauses-requires-clause-found_len_bound
rule_clauses-requires-clause-found_len_bound c = found_most (ready_sound _ _ c.args.lines.ready _ c.requires.l_bound.0) _ _ c.find_covering-n.ensures.1
