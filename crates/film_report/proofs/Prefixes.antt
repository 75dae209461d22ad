-- A buffer that holds as many bytes as decide a report, or more, cuts off nothing that counts.
use Rattle.std.proofs.Common.{◌≡◌, ℕ, ◌≤◌, List, sym, ap, ◌∙◌, subst, take, IfSome, OnOk, Some, None, Ok, Err, Result}
use Rattle.std.proofs.lemmas.List.{take-take}
use Rattle.std.specs.Io.KnownBytes.{Appends}
use Rattle.std.specs.declared.option.Option.{Option}
use Rattle.model.specs.Report.{report_of, enough}
use Rattle.model.proofs.Prefix.{report_prefix}

pub cut_same : (most : ℕ) (file : List ℕ) → enough ≤ most → report_of (take most file) ≡ report_of file
cut_same most file h = sym (report_prefix (take most file)) ∙ ap report_of (take-take enough most file h) ∙ report_prefix file

-- what was written of the front of known bytes was written of them all
pub front_written : {A E : Type 0} (r : Result A E) (known before after : Option (List ℕ)) (most : ℕ) (front : List ℕ) → enough ≤ most
    → IfSome known (λ file. front ≡ take most file) → OnOk r (Appends before after (report_of front))
    → OnOk r (IfSome known (λ file. Appends before after (report_of file)))
front_written (Err e) known before after most front h cut w = tt
front_written (Ok x) None before after most front h cut w = tt
front_written (Ok x) (Some file) before after most front h cut w =
    subst (Appends before after) (ap report_of cut ∙ cut_same most file h) w
