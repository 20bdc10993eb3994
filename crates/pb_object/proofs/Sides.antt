-- How many sides an object of a kind has.
use Rattle.std.proofs.Common.{◌≡◌, ◌≢◌, ℕ, ◌<◌, ◌≤◌, refl, arith}
use Rattle.pb_object.specs.declared.kind.Kind.{Kind}
use Rattle.pb_object.specs.declared.kind.Kind.TheVariants.{Map, Stack, Heap, Queue}
use Rattle.pb_object.specs.Standing.{side_count}

pub few_sides : (kind : Kind) → side_count kind ≤ 2
few_sides Map = omega arith
few_sides Stack = omega arith
few_sides Heap = omega arith
few_sides Queue = omega arith

pub sides_few : (kind : Kind) (side : ℕ) → side < side_count kind → side < 2
sides_few kind side here = omega (arith, here, few_sides kind)

-- a kind that isn't a queue has one side
pub one_side : (kind : Kind) → kind ≢ Queue → side_count kind ≡ 1
one_side Map other = refl
one_side Stack other = refl
one_side Heap other = refl
one_side Queue other = absurd (other refl)

-- a kind that hasn't two sides has one
pub not_two_sides : (kind : Kind) → side_count kind ≢ 2 → side_count kind ≡ 1
not_two_sides Map other = refl
not_two_sides Stack other = refl
not_two_sides Heap other = refl
not_two_sides Queue other = absurd (other refl)
