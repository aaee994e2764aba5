use Rattle.std.proofs.Common.{arith}
use Rattle.std.proofs.lemmas.Bool.Decides.{nat_tests}
use Rattle.blob.specs.Header.{header, identified}
use Rattle.blob.proofs.Heads.{checked}
use Rattle.blob.proofs.header.check_header.Goals as goal

pub returns-then-bytes-lt-HEADER_SIZE : goal.returns-then-bytes-lt-HEADER_SIZE
unfolding header identified
returns-then-bytes-lt-HEADER_SIZE c = checked c.args.bytes.now _ (grind (arith, nat_tests))

pub returns-then-not-is_identified : goal.returns-then-not-is_identified
unfolding header
returns-then-not-is_identified c = checked c.args.bytes.now _ (grind (arith, nat_tests))

pub returns-then-not-is_versioned : goal.returns-then-not-is_versioned
unfolding header
returns-then-not-is_versioned c = checked c.args.bytes.now _ (grind (arith, nat_tests))

pub returns-then-not-is_placed : goal.returns-then-not-is_placed
unfolding header
returns-then-not-is_placed c = checked c.args.bytes.now _ (grind (arith, nat_tests))

pub returns-then-number-gt-LARGEST : goal.returns-then-number-gt-LARGEST
unfolding header
returns-then-number-gt-LARGEST c = checked c.args.bytes.now _ (grind (arith, nat_tests))

pub returns : goal.returns
unfolding header
returns c = checked c.args.bytes.now _ (grind (arith, nat_tests))
