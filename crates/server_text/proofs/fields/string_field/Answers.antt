use Rattle.std.proofs.Common.{rules}
use Rattle.server_text.proofs.PayloadLaws.{string-on}
use Rattle.server_text.proofs.fields.string_field.Goals as goal

pub returns : goal.returns
returns c =
    rw (string-on c.args.line.now c.args.at (search rules) (search rules) (search rules)) c.string_at.ensures
