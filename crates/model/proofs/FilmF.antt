-- Film F's starred edges, each by computing; and by computing too, its report, the line with proposals on, its coefficient film, the film with grid steps, and films without weights.
use mathlib.Core.Path.{refl}
use Rattle.monotone.specs.Sweep.{sweep}
use Rattle.model.specs.Lists.{first_of}
use Rattle.model.specs.Film.{beside, across, neighbours}
use Rattle.model.specs.Checks.{film_fits, bad_coefficient, zero_weight, not_dominant, size_check, coefficient_check, weight_check, dominance_check}
use Rattle.model.specs.Margin.{margin}
use Rattle.model.specs.Proposal.{raised_by, rise_count, within_ceiling, tight, propose}
use Rattle.model.specs.Estimate.{eliminate, substitute, floor_of, whole_part, eliminated, solved, estimate}
use Rattle.model.specs.Run.{order_of, readied, run, propose_own, propose_lines}
use Rattle.model.specs.Weighing.{weight_search}
use Rattle.model.specs.Fields.{field_at}
use Rattle.model.specs.File.{file_check, file_of}
use Rattle.model.specs.Report.{decimal_digits, peak_of, cell_lines}
use lib.Ieee.{add, sub, mul, div, lt, le, of_int, eq, sum, neg, round, size, span, climb, units, odd}
use lib.Count.{count_trailing_zeros}
use Rattle.model.specs.CoefficientFile.{coefficient_file_check, coefficient_file_of}
use Rattle.model.specs.FilmF.{Edges, bytes_f, report_f, Computed, converted_f, CoefficientEdges, StepEdges, WeightEdges}

pub film_f_lem : Edges
unfolding sweep first_of beside across neighbours film_fits bad_coefficient zero_weight not_dominant size_check coefficient_check weight_check dominance_check margin order_of readied run
film_f_lem =
    record {
      diagonals = refl;
      links = refl;
      sources = refl;
      margin_2 = refl;
      order_1 = refl;
      order_2 = refl;
      budget_5 = refl;
      budget_6 = refl;
      from_2_4 = refl;
      ceiling_4 = refl;
      ceiling_3 = refl;
      wedge_0 = refl;
      wedge_0_slacks = refl;
      wedge_minus = refl;
      wedge_minus_slacks = refl;
      start_3_0 = refl;
    }

pub film_f_computed : Computed
unfolding bytes_f report_f sweep first_of beside across neighbours film_fits bad_coefficient zero_weight not_dominant size_check coefficient_check weight_check dominance_check margin order_of readied run file_check field_at decimal_digits peak_of cell_lines eliminate substitute floor_of whole_part eliminated solved estimate add sub mul div lt le of_int eq sum neg round size span climb units odd count_trailing_zeros propose_own propose_lines raised_by rise_count within_ceiling tight propose
film_f_computed = record { report = refl; estimated = refl; proposals_on = refl }

pub film_f_coefficients : CoefficientEdges
unfolding bytes_f converted_f report_f sweep first_of beside across neighbours bad_coefficient not_dominant coefficient_check dominance_check order_of readied run file_check coefficient_file_check coefficient_file_of field_at decimal_digits peak_of cell_lines
film_f_coefficients =
    record {
      writes = refl;
      reads = refl;
      report = refl;
      not_gauged = refl;
      not_coefficients = refl;
      tag_alone = refl;
      without_last = refl;
      with_another = refl;
      diagonal_0 = refl;
      lowest_cell = refl;
      source_least = refl;
      link_out = refl;
      not_dominant_lem = refl;
    }

pub film_f_steps : StepEdges
unfolding bytes_f converted_f sweep first_of beside across neighbours bad_coefficient not_dominant coefficient_check dominance_check order_of readied run file_check file_of coefficient_file_check coefficient_file_of field_at decimal_digits peak_of cell_lines
film_f_steps =
    record {
      diagonals = refl;
      links = refl;
      sources = refl;
      reads = refl;
      writes = refl;
      ones_read = refl;
      ones_written = refl;
      ones_formed = refl;
      tag_alone = refl;
      other_tag = refl;
      without_last = refl;
      of_three = refl;
      along_0 = refl;
      across_5 = refl;
      before_stray = refl;
      twice = refl;
      before_05 = refl;
      in_coefficients = refl;
      converted = refl;
    }

pub film_f_weights : WeightEdges
unfolding bytes_f converted_f report_f weight_search sweep first_of beside across neighbours bad_coefficient not_dominant coefficient_check dominance_check order_of readied run file_check coefficient_file_check field_at decimal_digits peak_of cell_lines
film_f_weights =
    record {
      found = refl;
      reads = refl;
      report = refl;
      coefficients = refl;
      coefficients_report = refl;
      without_last = refl;
      with_another = refl;
      thickness_0 = refl;
      wedge_high = refl;
      with_steps = refl;
      of_two = refl;
      not_gauged = refl;
      not_coefficients = refl;
      over_0 = refl;
      over_1 = refl;
      after_14 = refl;
      after_stray = refl;
    }
