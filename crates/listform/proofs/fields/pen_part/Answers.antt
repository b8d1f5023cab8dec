use Rattle.std.proofs.Common.{◌≡◌, length}
use Rattle.pen.proofs.Pens.{◌▷◌}
use Rattle.source.specs.Bytes.{part}
use Rattle.source.specs.Content.{meaning}
use Rattle.scan.proofs.Numbers.{length_part}
use Rattle.property.specs.Fields.{filled}
use Rattle.listform.proofs.fields.pen_part.Goals as goal

pub returns-clause-value : goal.returns-clause-value
unfolding filled
returns-clause-value g c =
    let n : length (part (meaning (g.S.Source.content c.args.source.now)) c.args.place c.args.size) ≡ c.args.size = length_part _ _ _ c.requires in
    rw n (c.put_from.ensures.value c.requires ▷ (rw c.gap.ensures at c.put_zeros.ensures))
