-- `put_length`: the length's four bytes.
use Rattle.std.proofs.Common.{◌∙◌}
use Rattle.pieces.proofs.Keeping.{length_put}
use Rattle.pieces.proofs.keep.put_length.Goals as goal

pub returns : goal.returns
returns c =
    let put = c.copy_from_slice in
    length_put c.args.buffer.now put.new.self c.args.low c.requires.0 c.requires.1 (put.ensures.after ∙ c.length_bytes.ensures)
