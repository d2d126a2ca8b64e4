-- Stacks as lists whose first element is the last that was put.
pub use Rattle.link_router.proofs.Stacks.{put_first, none_put}
