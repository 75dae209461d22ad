-- A value in a local's cell, and the same value as what a `&mut` to the local is lent from.
--     in_memory        cell at vs ∗ own h vs  ⊢  h lies at (b, o)
--     out-of-memory    h lies at (b, o)  ⊢  ∃ vs. cell at vs ∗ own h vs
use Prim.Native.Nat.{ℕ}
use mathlib.Core.List.{List, [], ◌∷◌}
use seplogic.Ra.Ura.{Ura}
use base.Fraction.{full_share}
use mir.Val.{Val}
use base.Logic.{ent, sep, ex}
use base.Fml.{fsep}
use types.Logic.{Logic, sem}
use types.Kit.{‵, ◌$◌, ◌∵◌, !, qed, fsplit, fjoin, fpick, fpack, show, done}
use denote.RattleType.{RattleType}
use denote.Memory.{cell_at, mem, part_of}

module _ {M : Type 1} {𝓤 : Ura M} (𝓛 : Logic 𝓤) (R : RattleType) (h : R.Denot) (b o : ℕ) where
  pub in_memory : (vs : List Val) → ent 𝓤 (sep 𝓤 (sem 𝓛 (cell_at full_share R.mir vs b o)) (sem 𝓛 (R.own_val h vs))) (sem 𝓛 ((mem R).own_at h b o))
  unfolding part_of
  in_memory vs = qed 𝓛 (‵ (cell_at full_share R.mir vs b o) ∷ ‵ (R.own_val h vs) ∷ []) ∵ fjoin ! $ fpack ! (List Val) (λ us. fsep (cell_at full_share R.mir us b o) (R.own_val h us)) vs $ done !

  pub out_of_memory : ent 𝓤 (sem 𝓛 ((mem R).own_at h b o)) (ex 𝓤 (λ (vs : List Val). sep 𝓤 (sem 𝓛 (cell_at full_share R.mir vs b o)) (sem 𝓛 (R.own_val h vs))))
  unfolding part_of
  out_of_memory = qed 𝓛 (‵ ((mem R).own_at h b o) ∷ []) ∵ fpick ! (λ vs. fsplit ! $ show ! (λ (us : List Val). sep 𝓤 (sem 𝓛 (cell_at full_share R.mir us b o)) (sem 𝓛 (R.own_val h us))) vs $ done !)
