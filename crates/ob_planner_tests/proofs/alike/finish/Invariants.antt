use Rattle.ob_planner_tests.proofs.alike.finish.Given as goal

abbrev pub ghosts-refill : goal.ghosts-refill
ghosts-refill a = record { name = a.blank.name; parts = a.blank.parts }
