use Rattle.std.proofs.Common.{◌≡◌, min, length, sym, arith}
use Rattle.std.proofs.lemmas.Result.{err_from_is_err_and}
use Rattle.draft.proofs.Changing.{key_held, key_long}
use Rattle.draft.proofs.given.key_given.Goals as goal

pub returns : goal.returns
returns c =
    let (s, m) = c.in_ok-source.ensures in
    let z : min (length c.args.bytes.now) (length c.args.bytes.now) ≡ length c.args.bytes.now = omega arith in
    rw (m, z, ← key_held c.args.bytes.now s) at c.one_key.ensures.reads

pub returns-in_err-source : goal.returns-in_err-source
returns-in_err-source c =
    let p = err_from_is_err_and c.from_residual.result c.from_residual.ensures.1 in
    let (s, e) = c.in_err-source.ensures in
    rw (p.1, p.2, e) (sym (key_long c.args.bytes.now s))
