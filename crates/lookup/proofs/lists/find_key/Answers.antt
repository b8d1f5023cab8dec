use Rattle.std.proofs.Common.{sym, subst}
use Rattle.index.specs.Keys.{key_of}
use Rattle.lookup.specs.Listing.{KeyFound}
use Rattle.lookup.proofs.Listing.{key_found}
use Rattle.lookup.proofs.lists.find_key.Goals as goal

pub returns : goal.returns
returns c xs end ps h =
    subst (KeyFound xs end c.args.rows.now ps (key_of c.args.key.now)) (sym c.find.ensures) (key_found xs end _ c.args.rows.now ps h)
