use Rattle.std.proofs.Common.{append_assoc, rules}
use Rattle.std.proofs.Output.{has_written_of_eq}
use Rattle.listing.proofs.Hexes.{byte_text, word_text}
use Rattle.listing.proofs.ColumnsDisplay.fmt.Goals as goal

pub returns-clause-writes : goal.returns-clause-writes
returns-clause-writes g c = λ plain ok.
    let set = byte_text c.args.self.now.0.set (search rules) in
    let content = word_text c.args.self.now.0.note.content (search rules) in
    let written = rw (c.laid_out.ensures, c.laid_out-2.ensures, c.in_radix.ensures, c.in_radix-2.ensures) at c.write.ensures.writes in
    has_written_of_eq _ _ _ _ _ (rw (set, content) (simp append_assoc)) (written plain ok)
