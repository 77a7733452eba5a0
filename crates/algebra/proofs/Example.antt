-- The example, by computation.
use Rattle.std.proofs.Common.{refl, arith, lit<, lit≤}
use lib.Signed.{le_z_yes}
use Rattle.algebra.specs.Ring.{conv_by, sum_by, power_by}
use Rattle.algebra.specs.Scheme.{Key, Lifts, Encrypts, Opens}
use Rattle.algebra.specs.Sets.{Set}
use Rattle.algebra.specs.Example.{f, fp, g, h, hq, r, m, s, c, a, Example}
use Rattle.algebra.proofs.Tests.{same_mod_is, same_phi_is, balanced_is, ternary_is, centred_is}

set : Set 5 6
set = record { long = lit≤ tt; few = lit≤ tt; odd = refl; no_three = λ e. omega arith; narrow = lit≤ tt; wide = lit< tt }

key : Key 5 64 f fp g h hq
unfolding conv_by sum_by power_by
key = record {
  f_small = record { ternary = ternary_is 5 f refl tt; correlates = le_z_yes tt };
  g_small = record { ternary = ternary_is 5 g refl tt; correlates = le_z_yes tt };
  fp_inverse = same_phi_is 3 5 _ _ tt;
  equation = same_mod_is 64 5 _ _ tt;
  hq_inverse = same_phi_is 64 5 _ _ tt;
}

lifts : Lifts 5 m s
unfolding conv_by sum_by power_by
lifts = record { small = ternary_is 5 s refl tt; reduces = same_phi_is 3 5 _ _ tt }

encrypts : Encrypts 5 64 h r m c
unfolding conv_by sum_by power_by
encrypts = record { r_small = ternary_is 5 r refl tt; m_small = ternary_is 5 m refl tt; s = s; lifts = lifts; is = same_mod_is 64 5 _ _ tt }

opens : Opens 5 64 f fp hq c a m s r
unfolding conv_by sum_by power_by
opens = record {
  a_is = same_mod_is 64 5 _ _ tt;
  a_centred = centred_is 5 64 a tt;
  m_is = same_phi_is 3 5 _ _ tt;
  m_small = ternary_is 5 m refl tt;
  s_is = lifts;
  r_is = same_phi_is 64 5 _ _ tt;
  r_centred = centred_is 5 64 r tt;
  r_last = refl;
}

pub example : Example
unfolding sum_by
example = record { set = set; key = key; balanced_h = balanced_is 64 5 h tt; balanced_c = balanced_is 64 5 c tt; encrypts = encrypts; opens = opens }
