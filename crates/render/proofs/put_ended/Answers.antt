-- `render::put_ended` meets its contract: the answer's line and then the field's text are the whole (`writes_then`), and the second has room behind the first.
use Rattle.text.proofs.Writes.{writes_then}
use Rattle.render.proofs.put_ended.Goals as goal

pub returns : goal.returns
returns c = writes_then c.put_counts-next.ensures c.put_field.ensures
