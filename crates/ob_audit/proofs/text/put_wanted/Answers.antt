use Rattle.ob_audit.proofs.text.put_wanted.Goals as goal

pub returns-in-Start-clause-all : goal.returns-in-Start-clause-all
returns-in-Start-clause-all g c = rw c.in-Start.is c.put_all.ensures.all

pub returns-in-Start-clause-front : goal.returns-in-Start-clause-front
returns-in-Start-clause-front g c = rw c.in-Start.is c.put_all.ensures.front

pub returns-in-Label-clause-all : goal.returns-in-Label-clause-all
returns-in-Label-clause-all g c = rw c.in-Label.is c.put_all-in-Label.ensures.all

pub returns-in-Label-clause-front : goal.returns-in-Label-clause-front
returns-in-Label-clause-front g c = rw c.in-Label.is c.put_all-in-Label.ensures.front

pub returns-in-Slot-clause-all : goal.returns-in-Slot-clause-all
returns-in-Slot-clause-all g c = rw c.in-Slot.is c.put_number.ensures.all

pub returns-in-Slot-clause-front : goal.returns-in-Slot-clause-front
returns-in-Slot-clause-front g c = rw c.in-Slot.is c.put_number.ensures.front

pub returns-in-Line-clause-all : goal.returns-in-Line-clause-all
returns-in-Line-clause-all g c = rw c.in-Line.is c.put_note.ensures.all

pub returns-in-Line-clause-front : goal.returns-in-Line-clause-front
returns-in-Line-clause-front g c = rw c.in-Line.is c.put_note.ensures.front

pub returns-in-LabelOr-clause-all : goal.returns-in-LabelOr-clause-all
returns-in-LabelOr-clause-all g c = rw c.in-LabelOr.is c.put_number-in-LabelOr.ensures.all

pub returns-in-LabelOr-clause-front : goal.returns-in-LabelOr-clause-front
returns-in-LabelOr-clause-front g c = rw c.in-LabelOr.is c.put_number-in-LabelOr.ensures.front

pub returns-in-Either-clause-all : goal.returns-in-Either-clause-all
returns-in-Either-clause-all g c = rw c.in-Either.is c.put_two.ensures.all

pub returns-in-Either-clause-front : goal.returns-in-Either-clause-front
returns-in-Either-clause-front g c = rw c.in-Either.is c.put_two.ensures.front

pub returns-in-EitherWrite-clause-all : goal.returns-in-EitherWrite-clause-all
returns-in-EitherWrite-clause-all g c = rw c.in-EitherWrite.is c.put_two-in-EitherWrite.ensures.all

pub returns-in-EitherWrite-clause-front : goal.returns-in-EitherWrite-clause-front
returns-in-EitherWrite-clause-front g c = rw c.in-EitherWrite.is c.put_two-in-EitherWrite.ensures.front

pub returns-in-End-clause-all : goal.returns-in-End-clause-all
returns-in-End-clause-all g c = rw c.in-End.is c.put_all-in-End.ensures.all

pub returns-in-End-clause-front : goal.returns-in-End-clause-front
returns-in-End-clause-front g c = rw c.in-End.is c.put_all-in-End.ensures.front
