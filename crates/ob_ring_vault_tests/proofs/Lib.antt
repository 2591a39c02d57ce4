mod CallLaws
mod OpenedLaws
