-- Demand 3 of the calls themselves: from nothing but the records that stand in their `ensures`.
use mathlib.Core.Path.{◌≡◌, sym, ap, ◌∙◌, subst}
use mathlib.Core.Bool.{true}
use mathlib.Core.List.{List}
use Prim.Native.Nat.{ℕ, ◌*◌}
use borrow.Author.Tests.{eq-eqb}
use lib.IntN.{ℤ, pos}
use lib.ListN.{length, take, replicate, length-replicate}
use Rattle.monotone.specs.History.{Verdict, Each}
use Rattle.model.specs.Refusals.{pass}
use Rattle.model.specs.Gauge.{Gauge}
use Rattle.model.specs.Film.{Film, size_of, film_of}
use Rattle.model.specs.Coefficients.{formed}
use Rattle.model.specs.Result.{answered}
use Rattle.model.specs.File.{gauge_in, file_check, read_film, gauge_check, Bytes, Values}
use Rattle.model.specs.FileCalls.{head_of, form_check, load_answer, load_check, laid_over, Loads, used}
use Rattle.model.specs.CoefficientFile.{film_in, coefficient_file_check, read_coefficients}
use Rattle.model.specs.CoefficientCalls.{film_head, coefficient_load_check, LoadsCoefficients}
use Rattle.model.specs.EitherFile.{read_either}
use Rattle.model.specs.Demand.{Step, exit_of, verdict_of, zero_field, History, Claimed}
use Rattle.model.specs.Session.{GaugedSession, CoefficientSession, Session, from_gauge, from_coefficients}
use Rattle.model.proofs.File.{read_values}
use Rattle.model.proofs.Inverse.{answer_passed, read_film_lem}
use Rattle.model.proofs.EitherFile.{gauged_either, coefficients_either, Kind, by_gauge, by_coefficients, kind_of_lem}
use Rattle.model.proofs.CoefficientInverse.{read_coefficients_lem}
use Rattle.model.proofs.Demand.{demand_3}

-- numbers that were read pass the forming call's tests, with slices of N
form_passes : (g : Gauge) (diagonals rights ups : List ℕ) (sources : List ℤ) → Values g × (gauge_check g true ≡ pass)
    → length diagonals ≡ g.rows * g.columns → length rights ≡ g.rows * g.columns → length ups ≡ g.rows * g.columns
    → length sources ≡ g.rows * g.columns → form_check g diagonals rights ups sources ≡ pass
form_passes g diagonals rights ups sources v d r u s =
    rw (eq-eqb _ _ v.0.weights_len, eq-eqb _ _ v.0.thicknesses_len, eq-eqb _ _ d, eq-eqb _ _ r, eq-eqb _ _ u, eq-eqb _ _ s) v.1

module _ (bytes : List ℕ) (B : Bytes bytes) where
  -- ---- a gauged film
  module _ {f : Film} (S : GaugedSession bytes f) where
    -- the film's numbers, as the reader laid them over its buffers
    abbrev numbers : Gauge
    numbers = used S.head S.wedge S.steps S.weights' S.thicknesses'

    numbers_read : read_film bytes ≡ answered numbers
    numbers_read = read_film_lem bytes S.weights S.thicknesses S.weights' S.thicknesses' S.head S.wedge S.steps B S.loads

    passes : form_check numbers S.diagonals S.rights S.ups S.sources ≡ pass
    passes =
        form_passes numbers S.diagonals S.rights S.ups S.sources (read_values bytes numbers B numbers_read) S.diagonals_len S.rights_len
        S.ups_len
        S.sources_len

    -- the forming call does not refuse it, ..
    pub session_formed : S.answer ≡ answered tt
    session_formed = rw passes at S.forms.answer_is

    -- .. and what runs and proposals are lent is the file's film
    gauged_film : f ≡ formed numbers
    gauged_film =
        let d : S.diagonals' ≡ (formed numbers).diagonals = rw passes at S.forms.diagonals_are in
        let r : S.rights' ≡ (formed numbers).rights = rw passes at S.forms.rights_are in
        let u : S.ups' ≡ (formed numbers).ups = rw passes at S.forms.ups_are in
        let s : S.sources' ≡ (formed numbers).sources = rw passes at S.forms.sources_are in
        S.lent ∙ (λ k. film_of S.head (take (S.head.rows * S.head.columns) S.weights') (d k) (r k) (u k) (s k))

  -- ---- either kind: what runs and proposals are lent is the file's film, ..

  pub session_film : {f : Film} → Session bytes f → read_either bytes ≡ answered f
  session_film (from_gauge S) = gauged_either bytes (numbers S) (numbers_read S) ∙ ap answered (sym (gauged_film S))
  session_film {f} (from_coefficients S) =
      coefficients_either bytes f
      (read_coefficients_lem bytes S.weights S.diagonals S.rights S.ups S.sources S.head S.loads ∙ ap answered (sym S.lent))

  -- .. and demand 3 holds of every list of runs and proposals that are lent it: a step's promise is the `ensures` of `run` and `propose`.
  pub demand_3_calls : {f : Film} → Session bytes f → Claimed f
  demand_3_calls {f} S = demand_3 bytes f B (session_film S)

  -- two sessions on one file, with buffers of their own, lend the same film ..
  pub session_one : {f g : Film} → Session bytes f → Session bytes g → f ≡ g
  session_one S T =
      let same : answered _ ≡ answered _ = sym (session_film S) ∙ session_film T in
      cc

  -- .. so that any two Done in them leave the same field.
  pub session_same : {f g : Film} → Session bytes f → Session bytes g → (ss ts : List Step) → History f ss → History g ts
      → Each exit_of (λ _ s. Each exit_of (λ _ t. verdict_of (size_of f) s ≡ Verdict.done → verdict_of (size_of g) t ≡ Verdict.done → exit_of s ≡ exit_of t) (zero_field g) ts) (zero_field f) ss
  session_same {f} {g} S T ss ts G H =
      subst (λ (h : Film). History h ts → Each exit_of (λ _ s. Each exit_of (λ _ t. verdict_of (size_of f) s ≡ Verdict.done → verdict_of (size_of h) t ≡ Verdict.done → exit_of s ≡ exit_of t) (zero_field h) ts) (zero_field f) ss)
      (session_one S T) ((demand_3_calls S).same ss ts G) H

  -- No accepted file is left out: it has a session, on buffers and slices of zeros.
  gauged_exists : (g : Gauge) → read_film bytes ≡ answered g → GaugedSession bytes (formed g)
  gauged_exists g e =
      let read = answer_passed (file_check bytes) (gauge_in bytes) (sym e) in
      let n : ℕ = g.rows * g.columns in
      let weights : List ℕ = replicate 1024 0 in
      let thicknesses : List ℕ = replicate 1156 0 in
      let opened : load_check bytes weights thicknesses ≡ pass = read.0 in
      let weights' : List ℕ = laid_over (gauge_in bytes).weights weights in
      let thicknesses' : List ℕ = laid_over (gauge_in bytes).thicknesses thicknesses in
      let loads : Loads bytes weights thicknesses (answered (load_answer g)) weights' thicknesses' =
      record { answer_is = rw opened (ap (λ (h : Gauge). answered (load_answer h)) read.1); weights_are = rw opened; thicknesses_are = rw opened } in
      let laid : Gauge = used (head_of g) g.wedge g.steps weights' thicknesses' in
      let reads : read_film bytes ≡ answered laid = read_film_lem bytes weights thicknesses weights' thicknesses' (head_of g) g.wedge g.steps B loads in
      let same : answered g ≡ answered laid = sym e ∙ reads in
      let one : g ≡ laid = cc in
      let zeros : List ℕ = replicate n 0 in
      let none : List ℤ = replicate n (pos 0) in
      let size : length zeros ≡ n = length-replicate {A = ℕ} n 0 in
      let signed : length none ≡ n = length-replicate {A = ℤ} n (pos 0) in
      let passed : form_check laid zeros zeros zeros none ≡ pass = form_passes laid zeros zeros zeros none (read_values bytes laid B reads) size size size signed in
      record {
        head = head_of g;
        wedge = g.wedge;
        steps = g.steps;
        weights = weights;
        thicknesses = thicknesses;
        weights' = weights';
        thicknesses' = thicknesses';
        loads = loads;
        answer = answered tt;
        diagonals = zeros;
        rights = zeros;
        ups = zeros;
        sources = none;
        diagonals_len = size;
        rights_len = size;
        ups_len = size;
        sources_len = signed;
        diagonals' = (formed laid).diagonals;
        rights' = (formed laid).rights;
        ups' = (formed laid).ups;
        sources' = (formed laid).sources;
        forms = record { answer_is = rw passed; diagonals_are = rw passed; rights_are = rw passed; ups_are = rw passed; sources_are = rw passed };
        lent = ap formed one;
      }

  coefficients_exist : (f : Film) → read_coefficients bytes ≡ answered f → CoefficientSession bytes f
  coefficients_exist f e =
      let g = film_in bytes in
      let read = answer_passed (coefficient_file_check bytes) g (sym e) in
      let zeros : List ℕ = replicate 1024 0 in
      let none : List ℤ = replicate 1024 (pos 0) in
      let opened : coefficient_load_check bytes zeros zeros zeros zeros none ≡ pass = read.0 in
      let loads : LoadsCoefficients bytes zeros zeros zeros zeros none (answered (film_head g)) (laid_over g.weights zeros) (laid_over g.diagonals zeros) (laid_over g.rights zeros) (laid_over g.ups zeros) (laid_over g.sources none) =
      record { answer_is = rw opened; weights_are = rw opened; diagonals_are = rw opened; rights_are = rw opened; ups_are = rw opened; sources_are = rw opened } in
      let reads = read_coefficients_lem bytes zeros zeros zeros zeros none (film_head g) loads in
      let same = sym e ∙ reads in
      record {
        head = film_head g;
        weights = zeros;
        diagonals = zeros;
        rights = zeros;
        ups = zeros;
        sources = none;
        weights' = laid_over g.weights zeros;
        diagonals' = laid_over g.diagonals zeros;
        rights' = laid_over g.rights zeros;
        ups' = laid_over g.ups zeros;
        sources' = laid_over g.sources none;
        loads = loads;
        lent = cc;
      }

  pub session_exists : (f : Film) → read_either bytes ≡ answered f → Session bytes f
  session_exists f e = go (kind_of_lem bytes f e)
    where
      go : Kind bytes f → Session bytes f
      go (by_gauge g r same) = subst (Session bytes) same (from_gauge (gauged_exists g r))
      go (by_coefficients r) = from_coefficients (coefficients_exist f r)

-- Two files with the same film, as a gauged film's and the one that it was converted to (`read_convert`), lend it to the same runs and proposals.
pub session_converted : (bytes other : List ℕ) → Bytes bytes → Bytes other → read_either other ≡ read_either bytes
    → {f g : Film} → Session bytes f → Session other g → f ≡ g
session_converted bytes other B C e S T =
    let same : answered _ ≡ answered _ = sym (session_film bytes B S) ∙ sym e ∙ session_film other C T in
    cc
