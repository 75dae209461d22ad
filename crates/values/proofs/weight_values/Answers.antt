-- `values::weight_values` meets its contract: the closure reads the two bytes of a weight where they stand (`word_from`).
use Rattle.std.proofs.Common.{◌+◌, ◌*◌, eqb, rules}
use Rattle.model.specs.Bytes.{word_at}
use Rattle.words.proofs.Rest.{word_from}
use Rattle.values.proofs.weight_values.Goals as goal

pub returns : goal.returns
returns c =
    let a = c.args in
    c.first_place.ensures (λ i. eqb (word_at a.file.now (a.at + 2 * i)) 0) (λ i low answer e. search (rules, word_from))
