use Rattle.std.proofs.Common.{ℕ, List, subst}
use Rattle.frames.specs.Bytes.{Puts}
use Rattle.frames.proofs.notes.Frame.write_at.Goals as goal

pub returns : goal.returns
returns c =
    let P : List ℕ → Type 0 = λ bs. Puts c.args.buf.now c.args.at bs c.put_at.result c.put_at.new.buf in
    subst P c.to_bytes.ensures c.put_at.ensures
