-- What a lane did, its store did once the lane is taken back.
use Rattle.std.proofs.Common.{◌≡◌, List, [], ◌++◌, Option, Some, None, Result, Ok, Err, inl, refl, sym, ◌∙◌, ap, subst, arith}
use Rattle.std.proofs.lemmas.List.{append-nil}
use Rattle.ob_store.specs.declared.event.Event.{Event}
use Rattle.ob_store.specs.declared.watch.Note.{Note}
use Rattle.ob_store.specs.Calls.{Notes, NotesLane, IsFreshLane, TellsNone}
use Rattle.ob_store.specs.Lines.{Trace}
use Rattle.ob_store.specs.Told.{events_of, TellsFirst, Does}
use Rattle.ob_store.proofs.Showing.{shows_none}

pub lane_noted : (events : List Event) (old mid lane now new : Option (List Event)) → IsFreshLane old lane → Notes [] old mid → Notes events lane now → NotesLane now mid new → Notes events old new
lane_noted events old mid lane now None fresh still did back = tt
lane_noted events (Some o) (Some m) lane (Some l) (Some x) fresh still did back =
    let is : l ≡ events = subst (λ (from : Option (List Event)). Notes events from (Some l)) fresh did in
    back ∙ ap (λ (t : List Event). t ++ l) (still ∙ append-nil o) ∙ ap (λ (t : List Event). o ++ t) is
lane_noted events (Some o) None lane (Some l) (Some x) fresh still did back = absurd back
lane_noted events (Some o) mid lane None (Some x) fresh still did back = absurd (let wrong : Some x ≡ None = back in cc)
lane_noted events None (Some m) lane now (Some x) fresh still did back = absurd still
lane_noted events None None lane (Some l) (Some x) fresh still did back = absurd back
lane_noted events None None lane None (Some x) fresh still did back = absurd (let wrong : Some x ≡ None = back in cc)

-- a new lane has told nothing, whatever its store tells
pub fresh_tells_none : (store lane : Option (List Event)) → IsFreshLane store lane → TellsNone lane
fresh_tells_none (Some s) lane fresh = subst TellsNone (sym fresh) refl
fresh_tells_none None lane fresh = fresh

-- the row of a lane is the store's
pub lane_does : {T E : Type 0} (notes : List Note) (old mid lane now new : Option (List Event)) (k l : Trace) (r : Result T E) → IsFreshLane old lane → Notes [] old mid → Does notes lane now k l r → NotesLane now mid new → Does notes old new k l r
lane_does notes old mid lane now new k l (Ok v) fresh still did back = record {
  all = record { seen = lane_noted (events_of notes) old mid lane now new fresh still did.all.seen back; shows = did.all.shows };
  first = tt;
}
lane_does notes old mid lane now new k l (Err e) fresh still did back = record {
  all = tt;
  first = record {
    made = did.first.made;
    shown = did.first.shown;
    cut = did.first.cut;
    tells = record { seen = lane_noted (events_of did.first.made) old mid lane now new fresh still did.first.tells.seen back; shows = did.first.tells.shows };
  };
}

-- nothing of a row was done
pub first_none : (notes : List Note) (old new : Option (List Event)) (k : Trace) → Notes [] old new → TellsFirst notes old new k k
first_none notes old new k still = record {
  made = [];
  shown = [];
  cut = record { count = 0; few = omega arith; made_are = refl; shown_are = inl refl };
  tells = record { seen = still; shows = shows_none k };
}
