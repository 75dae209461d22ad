-- What was told of the answer that a call gave is told of the answer that document 01 gives.
use Rattle.std.specs.Prelude.{Option}
use mathlib.Core.Path.{◌≡◌, refl, subst}
use mathlib.Core.List.{List}
use Prim.Native.Nat.{ℕ}
use lib.IntN.{ℤ}
use Rattle.model.specs.Gauge.{Gauge}
use Rattle.model.specs.Result.{Answer, refusal_in, Result, Gives}
use Rattle.model.specs.FileCalls.{gauge_of, save_call, LoadAnswer, Loads, Forms}
use Rattle.model.specs.CoefficientCalls.{LoadsCoefficients, convert_call}
use Rattle.model.specs.declared.Head.{Head}
use Rattle.told.specs.Refused.{Told}
use Rattle.tell.specs.Numbers.{SlackTold, MarginTold}
use Rattle.tell_files.specs.Files.{LoadTold, HeadTold}
use Rattle.archive.specs.Lent.{Leaves, ReadTold, CoefficientsTold, FormTold}
use Rattle.model.specs.declared.Factors.{Factors}

pub slack_told : {a b : Answer ℤ} {z z' : ℤ} {p n p' : ℕ} → a ≡ b → SlackTold a z p n z' p' → SlackTold b z p n z' p'
slack_told {z = z} {z' = z'} {p = p} {n = n} {p' = p'} e told = subst (λ (x : Answer ℤ). SlackTold x z p n z' p') e told

pub margin_told : {a b : Answer ℕ} {m m' p n p' : ℕ} → a ≡ b → MarginTold a m p n m' p' → MarginTold b m p n m' p'
margin_told {m = m} {m' = m'} {p = p} {n = n} {p' = p'} e told = subst (λ (x : Answer ℕ). MarginTold x m p n m' p') e told

pub leaves : {A : Type 0} {call : Result A} {a : A} {exit : List ℕ} {Tells : A → Type 0} → Gives call a exit → Tells a → Leaves call Tells exit
leaves {Tells = Tells} gave told = record { told = subst Tells gave.answer_is told; lent_is = gave.lent_is }

-- the wedge number that the code hands on is the one that was lent
pub save_by_wedge :
    (h : Head) (weights thicknesses : List ℕ) (s : Option Factors) (out : List ℕ) {w wedge : ℤ} {a : Answer (Unit {0})} {exit : List ℕ} → w ≡ wedge
    → Gives (save_call (gauge_of h weights thicknesses w s) out) a exit → Gives (save_call (gauge_of h weights thicknesses wedge s) out) a exit
save_by_wedge h weights thicknesses s out {a = a} {exit = exit} e gave = subst (λ (z : ℤ). Gives (save_call (gauge_of h weights thicknesses z s) out) a exit) e gave

pub read_told :
    {bytes w t w' t' h h' k k' : List ℕ} {a : Answer LoadAnswer} {z z' : ℤ} {p n p' : ℕ} →
    Loads bytes w t a w' t' → LoadTold a h z k p n h' z' k' p' → ReadTold bytes w t h z k p n w' t' h' z' k' p'
read_told {h = h} {h' = h'} {k = k} {k' = k'} {z = z} {z' = z'} {p = p} {n = n} {p' = p'} loads told =
    record {
      told = subst (λ (x : Answer LoadAnswer). LoadTold x h z k p n h' z' k' p') loads.answer_is told;
      loads = record { answer_is = refl; weights_are = loads.weights_are; thicknesses_are = loads.thicknesses_are };
    }

pub form_told :
    {g : Gauge} {d r u d' r' u' : List ℕ} {s s' : List ℤ} {a : Answer (Unit {0})} {p n p' : ℕ} →
    Forms g d r u s a d' r' u' s' → Told (refusal_in a) p n p' → FormTold g d r u s p n d' r' u' s' p'
form_told {p = p} {n = n} {p' = p'} forms told =
    record {
      told = subst (λ (x : Answer (Unit {0})). Told (refusal_in x) p n p') forms.answer_is told;
      forms = record {
        answer_is = refl;
        diagonals_are = forms.diagonals_are;
        rights_are = forms.rights_are;
        ups_are = forms.ups_are;
        sources_are = forms.sources_are;
      };
    }

pub coefficients_told :
    {bytes w d r u w' d' r' u' h h' : List ℕ} {s s' : List ℤ} {a : Answer Head} {p n p' : ℕ} →
    LoadsCoefficients bytes w d r u s a w' d' r' u' s' → HeadTold a h p n h' p' → CoefficientsTold bytes w d r u s h p n w' d' r' u' s' h' p'
coefficients_told {h = h} {h' = h'} {p = p} {n = n} {p' = p'} loads told =
    record {
      told = subst (λ (x : Answer Head). HeadTold x h p n h' p') loads.answer_is told;
      loads = record {
        answer_is = refl;
        weights_are = loads.weights_are;
        diagonals_are = loads.diagonals_are;
        rights_are = loads.rights_are;
        ups_are = loads.ups_are;
        sources_are = loads.sources_are;
      };
    }

pub convert_by_wedge :
    (h : Head) (weights thicknesses : List ℕ) (s : Option Factors) (out : List ℕ) {w wedge : ℤ} {a : Answer (Unit {0})} {exit : List ℕ} → w ≡ wedge
    → Gives (convert_call (gauge_of h weights thicknesses w s) out) a exit → Gives (convert_call (gauge_of h weights thicknesses wedge s) out) a exit
convert_by_wedge h weights thicknesses s out {a = a} {exit = exit} e gave = subst (λ (z : ℤ). Gives (convert_call (gauge_of h weights thicknesses z s) out) a exit) e gave
