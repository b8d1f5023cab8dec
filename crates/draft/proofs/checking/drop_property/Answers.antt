use Rattle.std.proofs.Common.{◌≡◌, Bool, true, false, [], Some, sym, refl, ◌∙◌, subst, arith}
use Rattle.message.specs.Sameness.{holding}
use Rattle.std.proofs.lemmas.Result.{err_from_is_err_and}
use Rattle.source.specs.Content.{meaning}
use Rattle.index.specs.Keys.{key_of}
use Rattle.editing.specs.Amendments as spec
use Rattle.lookup.specs.Finding.{message_in}
use Rattle.draft.proofs.Ends.{denied, upheld, target_got, less_no_target, less_unfit, less_absent, less_changed}
use Rattle.draft.proofs.checking.drop_property.Goals as goal

pub returns-in_err-target_there : goal.returns-in_err-target_there
returns-in_err-target_there g c =
    let p = err_from_is_err_and c.from_residual.result c.from_residual.ensures.1 in
    let h = c.in_err-target_there.ensures in
    rw (p.1, p.2) (record { same = h.same; checks = less_no_target _ _ _ _ h.value })

pub returns-in_err-key : goal.returns-in_err-key
returns-in_err-key g c =
    let p = err_from_is_err_and c.from_residual-in_err-key.result c.from_residual-in_err-key.ensures.1 in
    let t = c.in_ok-target_there.ensures in
    let m = message_in (meaning (g.S.Source.content c.args.source.now)) in
    let (h, there) = target_got m c.args.target _ t.value in
    rw (p.1, p.2) (record { same = t.same; checks = less_unfit m c.args.target c.args.bytes.now h there _ (sym c.in_err-key.ensures) })

pub returns-then-not-keys : goal.returns-then-not-keys
returns-then-not-keys g c =
    let t = c.in_ok-target_there.ensures in
    let m = message_in (meaning (g.S.Source.content c.args.source.now)) in
    let (h, there) = target_got m c.args.target _ t.value in
    let k = c.keys_of-keys.ensures in
    let v = k.value h (subst (λ x. holding (message_in (meaning x)) c.args.target ≡ Some h) (sym t.same) there) in
    let a : ◌≡◌ {A = Bool} c.keys_of-keys.result.found false = denied _ c.if-not-keys.true in
    record {
      same = k.same ∙ t.same;
      checks = less_absent m c.args.target c.args.bytes.now h there (key_of c.in_ok-key.key) (sym c.in_ok-key.ensures) (sym v.1 ∙ a);
    }

pub returns : goal.returns
returns g c =
    let t = c.in_ok-target_there.ensures in
    let m = message_in (meaning (g.S.Source.content c.args.source.now)) in
    let (h, there) = target_got m c.args.target _ t.value in
    let k = c.keys_of-keys.ensures in
    let v = k.value h (subst (λ x. holding (message_in (meaning x)) c.args.target ≡ Some h) (sym t.same) there) in
    let key = key_of c.in_ok-key.key in
    let a : ◌≡◌ {A = Bool} c.keys_of-keys.result.found true = upheld _ c.if-not-keys.false in
    record {
      same = k.same ∙ t.same;
      checks = (
        _,
        c.to_target.ensures [] (record { slot = spec.kept; listing = spec.less_key key }) (record { slot = tt; listing = refl }),
        less_changed m c.args.target c.args.bytes.now h there key (sym c.in_ok-key.ensures) (sym v.1 ∙ a),
        omega arith,
      );
    }
