-- What computing finds: the rows of document 01's table, and what the right answers are where a fake gives another.
use mathlib.Core.Path.{◌≡◌, refl}
use mathlib.Core.List.{List, [], ◌∷◌, ◌++◌, flatten, flat_map}
use Prim.Native.Nat.{ℕ}
use Rattle.literals.specs.Literals.{positive, negative}
use Rattle.lists.specs.Each.{each, tab, pairs, product, sum}
use Rattle.lists.specs.Wrote.{over}
use Rattle.refusals.specs.Verdict.{Checks, number, place, first_off}
use Rattle.refusals.specs.Outcome.{Outcome, verdict, kept}
use Rattle.refusals.proofs.Answering.{outcome_determined}
use Rattle.refusals.specs.Walk.{walked, read_or, word, times, counted}
use Rattle.sections.specs.Sections.{literals, at_least_one, at_most_one, clause_words, section_words}
use Rattle.bits.specs.Bits.{bit, powers, with_bit, solved}
use Rattle.lines.specs.Clue.{words, blocks, gap, packed_from, packed, last_end, min_space, positions, of_color, range, conflict}
use Rattle.lines.specs.Line.{run, runs_from, runs}
use Rattle.lines.specs.Calls.{block_checks, clue_checks, starts_words, ranges_words, line_checks, line_words}
use Rattle.puzzles.specs.Puzzle.{clue_at, length_at}
use Rattle.puzzles.specs.Colors.{with_colors, with_lines, color_set, known, off_solved}
use Rattle.puzzles.specs.Walk.{read_block, read_puzzle}
use Rattle.puzzles.specs.Checks.{spaces, meaning_checks, puzzle}
use Rattle.puzzles.specs.Firsts.{first_at}
use Rattle.numbering.specs.Variables.{line_at, palette, cell_first, variables}
use Rattle.placement.specs.Placement as Placement
use Rattle.placement.specs.Placement.{block_positions, block_once, non_overlap, of_lines}
use Rattle.cells.specs.Cells as Cells
use Rattle.cells.specs.Cells.{covering, by_column, precomputed, precomputed_cells}
use Rattle.counts.specs.Families.{families, counts_of}
use Rattle.truth.specs.Truth.{literal_true, clause_true, all_true, value, Satisfies}
use Rattle.pictures.specs.Pictures.{color_of, shown, blocking}
use Rattle.pictures.specs.Meaning.{section}
use Rattle.pictures.specs.Examples.{p8, p10, p11, p12, level}
use Rattle.checker.specs.Models.{trues, model_checks}
use Rattle.haafgrim.specs.Entries.{Clauses, Counts, CheckModel}
use Rattle.table.specs.Table.{filled, AllHold, table}
use Rattle.table.specs.Fakes.{sevens, p11_level, apart, crossed, barred, tall, strange, SlipsRuledOut}

-- what the contract's own functions give is an outcome
computes : {A : Type 0} {checks : Checks} {ws out : List A} → Outcome checks ws out (number (verdict checks ws out)) (place (verdict checks ws out)) (kept (verdict checks ws out) ws out)
computes = record { number_is = refl; place_is = refl; out_is = refl }

-- and whatever number and place it allows are these
answered : {A : Type 0} {checks : Checks} {ws out : List A} {n p m q : ℕ} {out₁ out₂ : List A} → Outcome checks ws out n p out₁ → Outcome checks ws out m q out₂ → (n ≡ m) × (p ≡ q)
answered {ws = ws} {out} a b = let d = outcome_determined ws out a b in (d.0, d.1)

pub record Computed : Type 0 where
  pub rows : AllHold table
  pub slips : SlipsRuledOut
  pub of_p8 : Clauses p8 (sevens 38) 0 26
      ((positive 1 ∷ positive 1 ∷ positive 1 ∷ positive 1 ∷ positive 1 ∷ positive 2 ∷ positive 0 ∷ positive 0 ∷ positive 0 ∷ positive 0
      ∷ positive 2 ∷ positive 2 ∷ positive 1 ∷ negative 3 ∷ positive 2 ∷ positive 2 ∷ negative 3
      ∷ positive 2 ∷ positive 2 ∷ negative 1 ∷ positive 3 ∷ positive 2 ∷ negative 2 ∷ positive 3 ∷ positive 0 ∷ positive 0 ∷ []) ++ sevens 12)
  pub of_p10 : Clauses p10 (sevens 38) 0 38
      (positive 1 ∷ positive 1 ∷ positive 1 ∷ positive 1 ∷ positive 2 ∷ positive 2 ∷ positive 3 ∷ positive 0
      ∷ positive 1 ∷ positive 2 ∷ negative 2 ∷ negative 3 ∷ positive 0 ∷ positive 0
      ∷ positive 4 ∷ positive 2 ∷ positive 1 ∷ negative 4 ∷ positive 2 ∷ positive 2 ∷ negative 4 ∷ positive 1 ∷ negative 5 ∷ positive 2 ∷ positive 3 ∷ negative 5
      ∷ positive 3 ∷ positive 2 ∷ negative 1 ∷ positive 4 ∷ positive 2 ∷ negative 2 ∷ positive 4 ∷ positive 2 ∷ negative 3 ∷ positive 5
      ∷ positive 0 ∷ positive 0 ∷ [])
  pub counts_of_p10 : Counts p10 (filled 13 7) 0 13 (5 ∷ 1 ∷ 1 ∷ 0 ∷ 1 ∷ 0 ∷ 0 ∷ 4 ∷ 3 ∷ 0 ∷ 0 ∷ 18 ∷ 38 ∷ [])
  pub no_model : CheckModel p8 (1 ∷ 1 ∷ 0 ∷ []) (7 ∷ []) 15 4 (7 ∷ [])
  pub first_section : Satisfies (value p11_level) (section (puzzle p11) 1) × (shown (puzzle p11) (value p11_level) ≡ level)

pub computed : Computed
unfolding
    AllHold table apart crossed barred tall strange over p8 p10 p11 p12 each tab pairs product sum first_off bit powers with_bit
    words blocks gap packed_from packed last_end min_space positions of_color range conflict run runs_from runs
    block_checks clue_checks starts_words ranges_words line_checks line_words
    clue_at length_at with_colors with_lines color_set known solved off_solved
    walked read_or word times counted read_block read_puzzle spaces meaning_checks
    first_at line_at palette cell_first variables at_least_one at_most_one clause_words flat_map section_words
    block_positions block_once non_overlap Placement.ruled of_lines covering Cells.ruled Cells.of_color by_column precomputed precomputed_cells families flatten
    literal_true clause_true all_true literals color_of shown blocking trues model_checks counts_of
computed = record {
  rows = (computes, (computes, (computes, (computes, (computes, (refl, (refl, (computes, (computes, ((refl, refl, refl, refl), (computes, (computes, tt))))))))))));
  slips = record {
    seven = refl;
    eight = refl;
    nine = refl;
    one_conflict = refl;
    true_cells = λ n p out a. (outcome_determined _ _ a computes).2;
    first_outer = refl;
    earlier_outer = refl;
    ten = refl;
    row_colors = λ n p out a. answered a computes;
    last_end = λ n p out a. (outcome_determined _ _ a computes).2;
    length_first = λ n p out a. answered a computes;
    row_place = λ n p out a. answered a computes;
    cell_place = λ n p out a. answered a computes;
  };
  of_p8 = computes;
  of_p10 = computes;
  counts_of_p10 = computes;
  no_model = computes;
  first_section = (refl, refl);
}
