use Rattle.std.proofs.Common.{◌≡◌, ◌<◌, length, Some, None, slice_get, refl, subst}
use Rattle.std.proofs.lemmas.List.{length-map}
use Rattle.std.proofs.lemmas.Option.{slice_get_read, slice_get_past}
use Rattle.ob_script.specs.ScriptViews.{script_txn_of}
use Rattle.ob_runner.proofs.Wants.{wanted_is}
use Rattle.ob_runner.proofs.runner.ScriptRunner.wanted.Goals as goal

pub returns-in-Some : goal.returns-in-Some
returns-in-Some c =
    let self = c.args.self.now in
    let txn = c.index-txn.result.now in
    let low = subst (λ n. self.at < n) (length-map self.txns.items (λ t. script_txn_of t)) c.requires in
    let here = slice_get_read self.txns.items (length self.txns.items) self.at txn refl low c.index-txn.ensures in
    let lookup = c.in-Some.ensures.lookup in
    let found = slice_get_read c.deref.result.now (length c.deref.result.now) c.args.ask c.in-Some.found.now refl lookup.3.0 lookup.1 in
    wanted_is self.txns.items self.at txn c.args.ask (Some c.in-Some.found.now) _ here (subst (λ l. slice_get l c.args.ask ≡ Some c.in-Some.found.now) c.deref.ensures.value found) refl

pub returns-in-None : goal.returns-in-None
returns-in-None c =
    let self = c.args.self.now in
    let txn = c.index-txn.result.now in
    let low = subst (λ n. self.at < n) (length-map self.txns.items (λ t. script_txn_of t)) c.requires in
    let here = slice_get_read self.txns.items (length self.txns.items) self.at txn refl low c.index-txn.ensures in
    let past = slice_get_past c.deref.result.now c.args.ask c.in-None.ensures.lookup.3 in
    wanted_is self.txns.items self.at txn c.args.ask None _ here (subst (λ l. slice_get l c.args.ask ≡ None) c.deref.ensures.value past) refl
