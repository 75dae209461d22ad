-- `text::put` meets its contract: the part that is copied into is exchanged for the items (`put_mid-sets`).
use native.Mathlib.Omega.{arith}
use Rattle.text.proofs.Writes.{put_mid-sets}
use Rattle.text.proofs.put.Goals as goal

pub returns : goal.returns
returns g c = put_mid-sets _ _ _ _ c.args.items.now c.copy_from_slice.ensures.after (omega arith) c.requires
