-- What a handle owns, and what is seen of it through a `&`.
use Rattle.std.specs.Prelude.{Option, Some, None, ◌^◌}
use Rattle.std.specs.Box.Ownership.{box_owns}
use Rattle.std.specs.Global.{Global}
use Rattle.std_heap.specs.contracts.GlobalAllocator.TheImpl.{ghosts}
use base.Fml.{Fml, Lft, Share, feq, flt, fsep, flft}
use denote.RattleType.{RattleType}
use denote.Ref.{Bor}
use base.Fraction.{full_share}
use denote.RawPtr.{Ptr, null_ptr, count_of, lies_at}
use denote.Sharing.{said, beside}
use denote.Struct.Lending.{lent_at}
use mir.Syntax.{Ty}

-- the C library's heap, of which there is one
abbrev pub c_heap : Global
c_heap = record { memory = record { seal = tt } }

-- the right to free a block of that heap
abbrev pub may_free : Ty → Ptr → Fml
may_free = ghosts.dealloc_token c_heap

-- at null nothing, else a value in a block of its own, with the right to free the block
abbrev pub owns_at : (R : RattleType) → Ptr → Option R.Denot → Fml
owns_at R p None = feq Ptr p null_ptr
owns_at R p (Some x) = box_owns may_free R p x

-- the same to read: at null nothing, else a `&` to the value, and that the pointer may be compared with null
abbrev pub lent_from : (R : RattleType) → Ptr → Option R.Denot → Lft → Fml
lent_from R p None = said (feq Ptr p null_ptr)
lent_from R p (Some x) = beside (lent_at R p x) (said (flt (count_of p) (2 ^ 63)))

-- what a call is lent that only reads a handle: what it holds, and a share of the time for which it is lent
pub record Lent (A : Type 0) : Type 0 where
  pub held : Option A
  pub life : Lft
  pub share : Share

abbrev pub is_lent : (R : RattleType) → Ptr → Lent R.Denot → Fml
is_lent R p l = fsep (lent_from R p l.held l.life) (flft l.life l.share)

-- what a call sees
abbrev pub seen_in : {A : Type 0} → Option (Bor A) → Option A
seen_in None = None
seen_in (Some r) = Some r.now

-- what C passes to have a handle freed: null, or a pointer to the handle that may be compared with null
abbrev pub is_at : (R : RattleType) → Ptr → Option R.Denot → Fml
is_at R p None = feq Ptr p null_ptr
is_at R p (Some handle) = fsep (lies_at R full_share p handle) (flt (count_of p) (2 ^ 63))

-- what is there afterwards: an empty handle, if there was one
abbrev pub freed : {Handle : Type 0} → Handle → Option Handle → Option Handle
freed empty None = None
freed empty (Some handle) = Some empty
