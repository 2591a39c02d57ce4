-- The laws.
pub use Rattle.ob_stand.proofs.Frames.{agree_off_spare, stands_frame, frame_with}
pub use Rattle.ob_stand.proofs.OnceLaws.{stands_once, ring_stands_once, stands_known}
pub use Rattle.ob_stand.proofs.EndLaws.{end_writes_spare, end_fills_spare, end_spares, end_is_held, end_sets, end_leaves}
pub use Rattle.ob_stand.proofs.AppendLaws.{append_stands, appends_leave}
pub use Rattle.ob_stand.proofs.OpenLaws.{open_begins, opens_leave}
pub use Rattle.ob_stand.proofs.SoundLaws.{sound_after}
pub use Rattle.ob_stand.proofs.FreshLaws.{formatted_stands}
pub use Rattle.ob_stand.proofs.Sampling.{sampled}
pub use Rattle.ob_stand.proofs.ReadLaws.{sealed_are_opened, stands_valued, runs_end}
pub use Rattle.ob_stand.proofs.FillLaws.{end_writes_stay}
pub use Rattle.ob_stand.proofs.VaultLaws.{ring_stands, writes_agree}
pub use Rattle.ob_stand.proofs.FormatLaws.{formats_exist}
pub use Rattle.ob_stand.proofs.EndImaging.{ends_exist}
