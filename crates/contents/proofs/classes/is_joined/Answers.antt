use Rattle.std.proofs.Common.{◌≡◌, Some, None, ◌∙◌, rules}
use Rattle.std.proofs.lemmas.Slice.Eq.{strip_prefix_is}
use Rattle.std.proofs.lemmas.Bool.Decides.{Decides-eqb}
use Rattle.source.specs.Bytes.{same_bytes}
use Rattle.contents.proofs.Spellings.{prefixed, unprefixed}
use Rattle.contents.proofs.classes.is_joined.Goals as goal

pub returns-in-Some : goal.returns-in-Some
returns-in-Some c =
    let e = strip_prefix_is Decides-eqb c.args.text.now c.args.front.now (Some c.in-Some.rest) c.in-Some.ensures.cases in
    let same : c.eq.result ≡ same_bytes c.in-Some.rest.now c.args.back.now = search rules in
    same ∙ prefixed c.args.front.now c.args.text.now _ c.args.back.now e

pub returns-in-None : goal.returns-in-None
returns-in-None c =
    let e = strip_prefix_is Decides-eqb c.args.text.now c.args.front.now None c.in-None.ensures.cases in
    unprefixed c.args.front.now c.args.text.now c.args.back.now e
