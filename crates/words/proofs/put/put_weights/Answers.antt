-- `words::put::put_weights` meets its contract: after each turn the bytes of the first i weights stand from `at` on (`Put`), two for each (`listed_front`).
use lib.ListN.{take}
use native.Mathlib.Omega.{arith}
use Rattle.text.proofs.Writes.{put_more}
use Rattle.words.proofs.Stores.{listed_append, listed_front}
use Rattle.model.specs.Bytes.{word}
use Rattle.model.proofs.Codes.{word_code}
use Rattle.words.proofs.put.put_weights.Goals as goal

pub loop-i-preserved : goal.loop-i-preserved
loop-i-preserved c =
    let i = c.loop-i.i in
    let ws = c.args.weights.now in
    put_more 0 (omega arith) (listed_append word (take i ws) _) (listed_front word_code _ i ws c.loop-i.invariant.within) c.loop-i.invariant
    c.put_word.ensures
