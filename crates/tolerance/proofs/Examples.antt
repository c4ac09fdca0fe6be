-- Examples of `meaning` and `agree`, each computed. Assumes nothing.
use Rattle.std.proofs.Common.{◌≡◌, true, false, pos, negsuc, refl, None, Some}
use lib.Ieee.{nan, inf, fin, binary64, of_bits}
use Rattle.ratio.specs.Gcd.{gcd}
use Rattle.ratio.specs.Order.{over}
use Rattle.tolerance.specs.declared.Tolerance.TheVariants.{Ratio, Counts, Noise, Parts}
use Rattle.tolerance.specs.Meaning.{meaning, in_steps, alike, agree}

ratio_4_6 : meaning (Ratio 4 6) ≡ Some (alike (over 2 3))
unfolding gcd
ratio_4_6 = refl

ratio_zero : meaning (Ratio 0 1000) ≡ Some (alike (over 0 1))
unfolding gcd
ratio_zero = refl

ratio_top : meaning (Ratio 68718362625 1048575) ≡ Some (alike (over 65535 1))
unfolding gcd
ratio_top = refl

ratio_over : meaning (Ratio 65536 1) ≡ None
ratio_over = refl

ratio_by_zero : meaning (Ratio 0 0) ≡ None
ratio_by_zero = refl

-- 1.5, by its bits
counts_1_5 : meaning (Counts (of_bits binary64 0x3ff8_0000_0000_0000)) ≡ Some (alike (over 3 2))
unfolding gcd in_steps of_bits
counts_1_5 = refl

-- 1 / 128
counts_fine : meaning (Counts (fin false 1 (negsuc 6))) ≡ None
unfolding in_steps
counts_fine = refl

counts_top : meaning (Counts (fin false 65535 (pos 0))) ≡ Some (alike (over 65535 1))
unfolding gcd in_steps
counts_top = refl

counts_minus_zero : meaning (Counts (fin true 0 (pos 0))) ≡ Some (alike (over 0 1))
unfolding gcd in_steps
counts_minus_zero = refl

counts_minus_one : meaning (Counts (fin true 1 (pos 0))) ≡ None
unfolding in_steps
counts_minus_one = refl

counts_nan : meaning (Counts nan) ≡ None
unfolding in_steps
counts_nan = refl

counts_inf : meaning (Counts (inf false)) ≡ None
unfolding in_steps
counts_inf = refl

-- 1 / 64 of noise, 2.5 times: 5 / 128
noise_2_5 : meaning (Noise (record { noise = fin false 1 (negsuc 5); multiple = fin false 5 (negsuc 0) })) ≡ Some (alike (over 5 128))
unfolding gcd in_steps
noise_2_5 = refl

parts_each : meaning (Parts (record { up = over 4 6; down = over 3 1 })) ≡ Some (record { up = over 2 3; down = over 3 1 })
unfolding gcd
parts_each = refl

-- 2 / 2 and 1 / 1 agree once held
parts_equal : meaning (Parts (record { up = over 2 2; down = over 1 1 })) ≡ Some (alike (over 1 1))
unfolding gcd
parts_equal = refl

parts_agree : agree (alike (over 1 1)) ≡ true
unfolding agree
parts_agree = refl

parts_differ : agree (record { up = over 2 3; down = over 2 1 }) ≡ false
unfolding agree
parts_differ = refl

parts_zero : meaning (Parts (record { up = over 0 7; down = over 0 1000 })) ≡ Some (alike (over 0 1))
unfolding gcd
parts_zero = refl

parts_zero_below : meaning (Parts (record { up = over 5 1; down = over 0 9 })) ≡ Some (record { up = over 5 1; down = over 0 1 })
unfolding gcd
parts_zero_below = refl

parts_bad_above : meaning (Parts (record { up = over 65536 1; down = over 1 1 })) ≡ None
parts_bad_above = refl

parts_bad_below : meaning (Parts (record { up = over 1 1; down = over 1 0 })) ≡ None
parts_bad_below = refl

-- 1,048,576 is a denominator too large
parts_fine_below : meaning (Parts (record { up = over 1 1; down = over 2 1048576 })) ≡ None
parts_fine_below = refl
