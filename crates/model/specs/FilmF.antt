-- Document 01, "Film F at its edges": the film, and its starred lines as one statement.
use Rattle.std.specs.Prelude.{◌≡◌, true, false, List, [], ◌∷◌, ◌++◌, ℕ, ℤ, pos, negsuc, take, drop, set, Option, Some, None}
use Rattle.model.specs.Gauge.{Gauge}
use Rattle.model.specs.Film.{Film, slack}
use Rattle.model.specs.Coefficients.{formed}
use Rattle.model.specs.Result.{Answer, answered, refused, Result}
use Rattle.model.specs.Margin.{margin}
use Rattle.model.specs.Estimate.{estimate}
use Rattle.model.specs.Report.{refused_line, report_of}
use Rattle.model.specs.Run.{RunAnswer, done, stopped, over, run_call}
use Rattle.model.specs.Weighing.{weight_search}
use Rattle.model.specs.File.{columns_offset, read_film, file_of}
use Rattle.model.specs.CoefficientFile.{read_coefficients, coefficient_file_of}
use Rattle.model.specs.declared.Counts.{Counts}
use Rattle.model.specs.declared.Factors.{Factors}

-- 1 row, 2 columns, weights 1 1, boundary rows all 1, middle row 3 2 1 1
abbrev pub gauge_f : ℕ → ℤ → Gauge
gauge_f ceiling wedge =
    record {
      rows = 1;
      columns = 2;
      ceiling = ceiling;
      weights = 1 ∷ 1 ∷ [];
      thicknesses = 1 ∷ 1 ∷ 1 ∷ 1 ∷ 3 ∷ 2 ∷ 1 ∷ 1 ∷ 1 ∷ 1 ∷ 1 ∷ 1 ∷ [];
      wedge = wedge;
      steps = None;
    }

abbrev pub film_f : Film
film_f = formed (gauge_f 100 (pos 100))

-- its file, a line for each field
unfoldable pub bytes_f : List ℕ
bytes_f =
    (0x01 ∷ 0x00 ∷ 0x02 ∷ 0x01 ∷ 0x02 ∷ [])
    ++ (0x02 ∷ 0x00 ∷ 0x04 ∷ 0x00 ∷ 0x00 ∷ 0x00 ∷ 0x64 ∷ [])
    ++ (0x03 ∷ 0x00 ∷ 0x04 ∷ 0x00 ∷ 0x01 ∷ 0x00 ∷ 0x01 ∷ [])
    ++ (0x04 ∷ 0x00 ∷ 0x0c ∷ 0x01 ∷ 0x01 ∷ 0x01 ∷ 0x01 ∷ 0x03 ∷ 0x02 ∷ 0x01 ∷ 0x01 ∷ 0x01 ∷ 0x01 ∷ 0x01 ∷ 0x01 ∷ [])
    ++ (0x05 ∷ 0x00 ∷ 0x04 ∷ 0x00 ∷ 0x00 ∷ 0x00 ∷ 0x64 ∷ [])

abbrev pub zero_field : List ℕ
zero_field = 0 ∷ 0 ∷ []

-- the report's budget
abbrev pub ample : ℕ
ample = 4000000

-- a run with proposals off
abbrev pub run_on : Film → ℕ → ℕ → List ℕ → Result (Answer RunAnswer)
run_on f budget order p = run_call f budget order false p

-- an answer with so many relaxations and raises, and the two pressures that the run leaves
abbrev pub ends : (Counts → RunAnswer) → ℕ → ℕ → ℕ → ℕ → Result (Answer RunAnswer)
ends answer visits raises p q =
    record { answer = answered (answer (record { visits = visits; raises = raises; accepted = 0 })); lent = p ∷ q ∷ [] }

abbrev pub slacks : Film → List ℕ → List ℤ
slacks f p = slack f p 0 ∷ slack f p 1 ∷ []

-- the starred lines, one after another
pub record Edges : Type 0 where
  pub diagonals : film_f.diagonals ≡ 206 ∷ 51 ∷ []
  pub links : film_f.rights ≡ 27 ∷ 0 ∷ []
  pub sources : film_f.sources ≡ negsuc 199 ∷ negsuc 99 ∷ []
  pub margin_2 : margin film_f ≡ 2
  pub order_1 : run_on film_f ample 1 zero_field ≡ ends done 5 3 2 4
  pub order_2 : run_on film_f ample 2 zero_field ≡ run_on film_f ample 0 zero_field
  pub budget_5 : run_on film_f 5 0 zero_field ≡ ends stopped 5 4 2 4
  pub budget_6 : run_on film_f 6 0 zero_field ≡ ends done 6 4 2 4
  pub from_2_4 : run_on film_f 2 0 (2 ∷ 4 ∷ []) ≡ ends done 2 0 2 4
  pub ceiling_4 : run_on (formed (gauge_f 4 (pos 100))) ample 0 zero_field ≡ ends done 6 4 2 4
  pub ceiling_3 : run_on (formed (gauge_f 3 (pos 100))) ample 0 zero_field ≡ ends (over 1) 4 3 2 3
  pub wedge_0 : run_on (formed (gauge_f 100 (pos 0))) ample 0 zero_field ≡ ends done 2 0 0 0
  pub wedge_0_slacks : slacks (formed (gauge_f 100 (pos 0))) zero_field ≡ pos 0 ∷ pos 0 ∷ []
  pub wedge_minus : run_on (formed (gauge_f 100 (negsuc 99))) ample 0 zero_field ≡ ends done 2 0 0 0
  pub wedge_minus_slacks : slacks (formed (gauge_f 100 (negsuc 99))) zero_field ≡ pos 200 ∷ pos 100 ∷ []
  pub start_3_0 : run_on film_f ample 0 (3 ∷ 0 ∷ []) ≡ ends done 4 1 3 4

-- the film's file is accepted and is what the writer makes, and the lines about files that differ from it
pub record FileEdges : Type 0 where
  pub reads : read_film bytes_f ≡ answered (gauge_f 100 (pos 100))
  pub writes : file_of (gauge_f 100 (pos 100)) ≡ bytes_f
  pub empty : read_film [] ≡ refused 1 0
  pub without_last : read_film (take 40 bytes_f) ≡ refused 1 40
  pub with_another : read_film (bytes_f ++ (0 ∷ [])) ≡ refused 2 41
  pub columns_33 : read_film (set bytes_f columns_offset 33) ≡ refused 4 4

-- document 01's report of film F, a line each:
--   FILM 1 2 CEILING 100
--   DONE 6 4
--   1 1 2 104
--   1 2 4 50
--   PEAK 1 2 4
unfoldable pub report_f : List ℕ
report_f =
    (70 ∷ 73 ∷ 76 ∷ 77 ∷ 32 ∷ 49 ∷ 32 ∷ 50 ∷ 32 ∷ 67 ∷ 69 ∷ 73 ∷ 76 ∷ 73 ∷ 78 ∷ 71 ∷ 32 ∷ 49 ∷ 48 ∷ 48 ∷ 10 ∷ [])
    ++ (68 ∷ 79 ∷ 78 ∷ 69 ∷ 32 ∷ 54 ∷ 32 ∷ 52 ∷ 10 ∷ [])
    ++ (49 ∷ 32 ∷ 49 ∷ 32 ∷ 50 ∷ 32 ∷ 49 ∷ 48 ∷ 52 ∷ 10 ∷ [])
    ++ (49 ∷ 32 ∷ 50 ∷ 32 ∷ 52 ∷ 32 ∷ 53 ∷ 48 ∷ 10 ∷ [])
    ++ (80 ∷ 69 ∷ 65 ∷ 75 ∷ 32 ∷ 49 ∷ 32 ∷ 50 ∷ 32 ∷ 52 ∷ 10 ∷ [])

-- the unstarred line with proposals on: wedge 100,000, ceiling 5,000; the estimate of the row is 1317 2657
abbrev pub steep : Film
steep = formed (gauge_f 5000 (pos 100000))

-- the text of the report, and the estimate and the run of the unstarred line
pub record Computed : Type 0 where
  pub report : report_of bytes_f ≡ report_f
  pub estimated : estimate steep zero_field 0 ≡ 1317 ∷ 2657 ∷ []
  pub proposals_on : run_call steep ample 0 true zero_field
      ≡ record { answer = answered (done (record { visits = 4; raises = 2; accepted = 2 })); lent = 1320 ∷ 2660 ∷ [] }

-- Document 02, W1: its coefficient film's file, a line for each field
unfoldable pub converted_f : List ℕ
converted_f =
    (0x01 ∷ 0x00 ∷ 0x02 ∷ 0x01 ∷ 0x02 ∷ [])
    ++ (0x02 ∷ 0x00 ∷ 0x04 ∷ 0x00 ∷ 0x00 ∷ 0x00 ∷ 0x64 ∷ [])
    ++ (0x03 ∷ 0x00 ∷ 0x04 ∷ 0x00 ∷ 0x01 ∷ 0x00 ∷ 0x01 ∷ [])
    ++ (0x06 ∷ 0x00 ∷ 0x08 ∷ 0x00 ∷ 0x00 ∷ 0x00 ∷ 0xce ∷ 0x00 ∷ 0x00 ∷ 0x00 ∷ 0x33 ∷ [])
    ++ (0x07 ∷ 0x00 ∷ 0x08 ∷ 0x00 ∷ 0x00 ∷ 0x00 ∷ 0x1b ∷ 0x00 ∷ 0x00 ∷ 0x00 ∷ 0x00 ∷ [])
    ++ (0x08 ∷ 0x00 ∷ 0x08 ∷ 0x00 ∷ 0x00 ∷ 0x00 ∷ 0x00 ∷ 0x00 ∷ 0x00 ∷ 0x00 ∷ 0x00 ∷ [])
    ++ (0x09 ∷ 0x00 ∷ 0x10 ∷ 0xff ∷ 0xff ∷ 0xff ∷ 0xff ∷ 0xff ∷ 0xff ∷ 0xff ∷ 0x38 ∷ 0xff ∷ 0xff ∷ 0xff ∷ 0xff ∷ 0xff ∷ 0xff ∷ 0xff ∷ 0x9c ∷ [])

-- the converter writes it, it is read as film F and its report is film F's; each reader refuses the other kind at the tag behind the weights;
-- and files that differ from it: 14 comes after a cut (a diagonal of 0, and a byte less), at the lowest cell (of the last list, and of the
-- first), and before 9
pub record CoefficientEdges : Type 0 where
  pub writes : coefficient_file_of film_f ≡ converted_f
  pub reads : read_coefficients converted_f ≡ answered film_f
  pub report : report_of converted_f ≡ report_f
  pub not_gauged : read_film converted_f ≡ refused 2 19
  pub not_coefficients : read_coefficients bytes_f ≡ refused 2 19
  pub tag_alone : report_of (take 20 converted_f) ≡ refused_line 1 20
  pub without_last : read_coefficients (take 70 (set converted_f 25 0)) ≡ refused 1 70
  pub with_another : read_coefficients (converted_f ++ (0 ∷ [])) ≡ refused 2 71
  pub diagonal_0 : read_coefficients (set converted_f 25 0) ≡ refused 14 0
  pub lowest_cell : read_coefficients (set (set converted_f 29 0) 55 0x80) ≡ refused 14 0
  pub source_least : read_coefficients (set (set (set (set (set (set (set (set converted_f 63 0x80) 64 0) 65 0) 66 0) 67 0) 68 0) 69 0) 70 0) ≡ refused 14 1
  pub link_out : read_coefficients (set converted_f 40 1) ≡ refused 14 1
  pub not_dominant_lem : read_coefficients (set converted_f 25 0x1b) ≡ refused 9 0

-- Document 02, W2: the film with a field 0A, whose tag, length and two steps stand behind its five; and its coefficients
abbrev pub step_bytes : ℕ → ℕ → List ℕ
step_bytes along across = 0x0a ∷ 0x00 ∷ 0x02 ∷ along ∷ across ∷ []

abbrev pub stepped_f : Option Factors → Gauge
stepped_f grid =
    record {
      rows = 1;
      columns = 2;
      ceiling = 100;
      weights = (gauge_f 100 (pos 100)).weights;
      thicknesses = (gauge_f 100 (pos 100)).thicknesses;
      wedge = pos 100;
      steps = grid;
    }

abbrev pub steps_on : ℕ → ℕ → Option Factors
steps_on along across = Some (record { along = along; across = across })

-- Its coefficients: links within the row are 125, 27 and 8, times 2, those to the ring rows 27 of the first cell and 8 of the second, times 3. Its file, and
-- files that differ: the tag is looked at before the header, 15 stands before stray, and what was given as 1 1 is written so.
pub record StepEdges : Type 0 where
  pub diagonals : (formed (stepped_f (steps_on 2 3))).diagonals ≡ 466 ∷ 118 ∷ []
  pub links : (formed (stepped_f (steps_on 2 3))).rights ≡ 54 ∷ 0 ∷ []
  pub sources : (formed (stepped_f (steps_on 2 3))).sources ≡ film_f.sources
  pub reads : read_film (bytes_f ++ step_bytes 2 3) ≡ answered (stepped_f (steps_on 2 3))
  pub writes : file_of (stepped_f (steps_on 2 3)) ≡ bytes_f ++ step_bytes 2 3
  pub ones_read : read_film (bytes_f ++ step_bytes 1 1) ≡ answered (stepped_f (steps_on 1 1))
  pub ones_written : file_of (stepped_f (steps_on 1 1)) ≡ bytes_f ++ step_bytes 1 1
  pub ones_formed : formed (stepped_f (steps_on 1 1)) ≡ film_f
  pub tag_alone : read_film (bytes_f ++ (0x0a ∷ [])) ≡ refused 1 42
  pub other_tag : read_film (bytes_f ++ (0x0b ∷ [])) ≡ refused 2 41
  pub without_last : read_film (bytes_f ++ take 4 (step_bytes 2 3)) ≡ refused 1 45
  pub of_three : read_film (bytes_f ++ set (step_bytes 2 3) 2 3) ≡ refused 3 41
  pub along_0 : read_film (bytes_f ++ step_bytes 0 5) ≡ refused 15 44
  pub across_5 : read_film (bytes_f ++ step_bytes 4 5) ≡ refused 15 45
  pub before_stray : read_film (bytes_f ++ step_bytes 5 1 ++ (0 ∷ [])) ≡ refused 15 44
  pub twice : read_film (bytes_f ++ step_bytes 2 3 ++ step_bytes 2 3) ≡ refused 2 46
  pub before_05 : read_film (take 34 bytes_f ++ step_bytes 2 3 ++ drop 34 bytes_f) ≡ refused 2 34
  pub in_coefficients : read_coefficients (converted_f ++ step_bytes 2 3) ≡ refused 2 71
  pub converted : report_of (coefficient_file_of (formed (stepped_f (steps_on 2 3)))) ≡ report_of (bytes_f ++ step_bytes 2 3)

-- Document 02, W5: a film's file with field 03 emptied, and that of a film of two cells with a diagonal and a link exchanged there: the first link is 65,563, and
-- the second diagonal as given
abbrev pub unweighted : List ℕ → List ℕ
unweighted bytes = take 12 bytes ++ (0x03 ∷ 0x00 ∷ 0x00 ∷ []) ++ drop 19 bytes

abbrev pub strained : ℕ → List ℕ
strained diagonal = set (set (unweighted converted_f) 30 1) 25 diagonal

-- Its weights 1 1 are found in four relaxations, so it is read as with them, and its report is the same, of either kind; numbers behind field 03 stand four bytes earlier, in
-- refusals too. Over is 16 at its cell, after stray and 14.
pub record WeightEdges : Type 0 where
  pub found : weight_search film_f ≡ record { answer = done (record { visits = 4; raises = 2; accepted = 0 }); lent = 1 ∷ 1 ∷ [] }
  pub reads : read_film (unweighted bytes_f) ≡ answered (gauge_f 100 (pos 100))
  pub report : report_of (unweighted bytes_f) ≡ report_f
  pub coefficients : read_coefficients (unweighted converted_f) ≡ answered film_f
  pub coefficients_report : report_of (unweighted converted_f) ≡ report_f
  pub without_last : read_film (take 36 (unweighted bytes_f)) ≡ refused 1 36
  pub with_another : read_film (unweighted bytes_f ++ (0 ∷ [])) ≡ refused 2 37
  pub thickness_0 : read_film (set (unweighted bytes_f) 18 0) ≡ refused 7 18
  pub wedge_high : read_film (set (unweighted bytes_f) 33 0x7f) ≡ refused 8 33
  pub with_steps : read_film (unweighted bytes_f ++ step_bytes 4 5) ≡ refused 15 41
  pub of_two : read_film (set (unweighted bytes_f) 14 2) ≡ refused 3 12
  pub not_gauged : read_film (unweighted converted_f) ≡ refused 2 15
  pub not_coefficients : read_coefficients (unweighted bytes_f) ≡ refused 2 15
  pub over_0 : read_coefficients (strained 0x33) ≡ refused 16 0
  pub over_1 : read_coefficients (strained 1) ≡ refused 16 1
  pub after_14 : read_coefficients (set (strained 1) 21 0) ≡ refused 14 0
  pub after_stray : read_coefficients (strained 1 ++ (0 ∷ [])) ≡ refused 2 67
