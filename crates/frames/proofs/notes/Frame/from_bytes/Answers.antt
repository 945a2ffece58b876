use Rattle.std.proofs.Common.{rules}
use Rattle.frames.proofs.FrameLaws.{frame_read}
use Rattle.frames.proofs.notes.Frame.from_bytes.Goals as goal

pub returns : goal.returns
returns c =
    frame_read c.args.bytes.now c.in_ok-read_frame.field-0 c.frame.result (λ i. search (rules, c.type_inv.bytes i))
    c.in_ok-read_frame.ensures c.frame.ensures
