use Rattle.std.proofs.Common.{◌≡◌, ◌<◌, ◌≤◌, length, arith}
use Rattle.io_core.specs.Files.{bytes_under}
use Rattle.std.proofs.Common.{refl}
use Rattle.job_files.proofs.Fronts.{long_front, whole_front}
use Rattle.job_files.proofs.files.load_file.Goals as goal

pub returns-then-len-gt-MAX_BYTES-clause-stopped : goal.returns-then-len-gt-MAX_BYTES-clause-stopped
returns-then-len-gt-MAX_BYTES-clause-stopped g c =
    let long : 16777216 < length c.in-Ok.bytes.items = omega (arith, c.in-Ok.bytes.ok.0) in
    (refl, λ files holds. long_front (bytes_under files c.args.name.now) c.in-Ok.bytes.items 16777216 (c.in-Ok.ensures.bytes files holds) long)

pub returns-else-len-gt-MAX_BYTES-clause-ok : goal.returns-else-len-gt-MAX_BYTES-clause-ok
returns-else-len-gt-MAX_BYTES-clause-ok g c =
    let short : length c.in-Ok.bytes.items ≤ 16777216 = omega (arith, c.in-Ok.bytes.ok.0) in
    λ files holds. whole_front (bytes_under files c.args.name.now) c.in-Ok.bytes.items 16777216 (c.in-Ok.ensures.bytes files holds) short
