use Rattle.std.proofs.Common.{◌∙◌, refl}
use Rattle.ob_desk.specs.Desk.{setup_of}
use Rattle.ob_shares.proofs.Fitting.{none_fit}
use Rattle.ob_conduct.proofs.Quitting.{two_open}
use Rattle.ob_session_tests.proofs.Opening.{driver_first, sessions_are}
use Rattle.ob_session_tests.proofs.sessions.open_hall.Goals as goal

pub new-requires : goal.new-requires
new-requires g c = record {
  opens = (
    setup_of c.args.params.now,
    _,
    _,
    two_open (setup_of c.args.params.now) _ _ 1 2 c.desk_at-desk.ensures.opens.few c.desk_at-desk.ensures.opens.low refl refl (none_fit 2 _ _),
    c.desk_at-desk.ensures.desk,
  );
}

pub returns-clause-driver : goal.returns-clause-driver
returns-clause-driver g c =
    driver_first c.in-Ok.hall c.args.params.now _ c.in-Ok.sessions.items c.in-Ok.ensures.passes (c.in-Ok.ensures.desk ∙ c.desk_at-desk.ensures.desk) c.desk_at-desk.ensures.opens c.remove-driver.result c.remove-driver.ensures.value

pub returns-clause-sessions : goal.returns-clause-sessions
returns-clause-sessions g c =
    sessions_are c.in-Ok.hall c.args.params.now _ c.in-Ok.sessions.items c.in-Ok.ensures.passes (c.in-Ok.ensures.desk ∙ c.desk_at-desk.ensures.desk) c.desk_at-desk.ensures.opens _ c.remove-driver.ensures.items
