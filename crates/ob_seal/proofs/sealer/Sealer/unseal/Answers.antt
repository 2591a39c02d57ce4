use Rattle.std.proofs.Common.{sym, ap, ◌∙◌, subst, Ok, rules}
use Rattle.std.proofs.lemmas.Result.{err_from_is_err_and}
use Rattle.ob_seal.specs.Seals.{sealed_front}
use Rattle.ob_seal.specs.declared.sealer.Opened.{Opened}
use Rattle.ob_seal.specs.Damage.{IsExpected}
use Rattle.ob_seal.proofs.Spelling.{sealed_stamped, sealed_parts, length-sealed_front, not_other, wrong_seal, sealed_from, opened_same}
use Rattle.ob_seal.proofs.sealer.Sealer.unseal.Goals as goal

pub returns-in_err-front-clause-round_trip : goal.returns-in_err-front-clause-round_trip
returns-in_err-front-clause-round_trip c = λ g n plain hg hn long e same.
    let ok = c.unstamp.ensures.round_trip (sealed_front c.args.self.now.keys g n plain) (length-sealed_front c.args.self.now.keys g n plain long) (e ∙ sealed_stamped c.args.self.now.keys c.args.cell g n plain) in
    let err = c.in_err-front.was in
    cc

pub returns-in_err-check_identity-clause-damaged : goal.returns-in_err-check_identity-clause-damaged
returns-in_err-check_identity-clause-damaged c =
    let o = c.opened-opened.result in
    let spelled = sealed_from c.args.self.now.keys c.args.cell o.generation o.number c.args.bytes.now c.in_ok-front.front o.plain c.in_ok-front.ensures.spelled c.opened-opened.ensures in
    let parts = sealed_parts c.args.self.now.keys c.args.cell o.generation o.number c.args.bytes.now o.plain (search rules) spelled in
    let exit = err_from_is_err_and c.from_residual-in_err-check_identity.result c.from_residual-in_err-check_identity.ensures.1 in
    rw (exit.1, exit.2) (wrong_seal c.args.self.now.keys c.args.cell c.args.expected c.args.bytes.now o.generation o.number _ parts.0 parts.1 c.in_err-check_identity.ensures.other)

pub returns-in_err-check_identity-clause-round_trip : goal.returns-in_err-check_identity-clause-round_trip
returns-in_err-check_identity-clause-round_trip c = λ g n plain hg hn long e same.
    let o = c.opened-opened.result in
    let spelled = sealed_from c.args.self.now.keys c.args.cell o.generation o.number c.args.bytes.now c.in_ok-front.front o.plain c.in_ok-front.ensures.spelled c.opened-opened.ensures in
    let is = opened_same c.args.self.now.keys c.args.cell g n c.args.bytes.now plain o (search rules) (search rules) (search rules) spelled hg hn long e in
    let expected = subst (λ (p : Opened). IsExpected c.args.expected p.generation p.number) (sym is) same in
    absurd (not_other c.args.expected c.args.cell o.generation o.number _ expected c.in_err-check_identity.ensures.other)

pub returns-clause-spelled : goal.returns-clause-spelled
returns-clause-spelled c =
    let o = c.opened-opened.result in
    sealed_from c.args.self.now.keys c.args.cell o.generation o.number c.args.bytes.now c.in_ok-front.front o.plain c.in_ok-front.ensures.spelled c.opened-opened.ensures

pub returns-clause-round_trip : goal.returns-clause-round_trip
returns-clause-round_trip c = λ g n plain hg hn long e same.
    let o = c.opened-opened.result in
    let spelled = sealed_from c.args.self.now.keys c.args.cell o.generation o.number c.args.bytes.now c.in_ok-front.front o.plain c.in_ok-front.ensures.spelled c.opened-opened.ensures in
    ap Ok (opened_same c.args.self.now.keys c.args.cell g n c.args.bytes.now plain o (search rules) (search rules) (search rules) spelled hg hn long e)
