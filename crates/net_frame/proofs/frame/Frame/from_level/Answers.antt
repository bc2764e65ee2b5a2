use Rattle.std.proofs.Common.{◌≡◌, ◌+◌, ◌∙◌, ap, arith}
use Rattle.std.specs.Option.{option_map}
use Rattle.name_table.specs.CodeBits.{bits_in}
use Rattle.mv_encoding.specs.Layouts.{Layout}
use Rattle.net_model.specs.Problems.{file_of}
use Rattle.net_problem.specs.ProblemBits.{joint_bits, file_bits}
use Rattle.net_frame.specs.Frames.{joint_of, file_spots}
use Rattle.net_frame.proofs.Grounds.{grounds, files-joint, has-letters, carried, map-fused, third-fits}
use Rattle.net_frame.proofs.frame.Frame.from_level.Goals as goal

pub planned-requires-clause-few : goal.planned-requires-clause-few
planned-requires-clause-few c =
    let few = (grounds c.args.problem.now c.mode-mode.ensures.built).x_few in
    let bits = ap bits_in c.x.ensures in
    omega (arith, few, bits, c.requires.few)

pub of-requires-clause-there : goal.of-requires-clause-there
of-requires-clause-there c =
    let problem = c.args.problem.now in
    let built = c.mode-mode.ensures.built in
    let codes = c.deref.ensures.value ∙ c.in_ok-joint.ensures.codes ∙ ap (λ (x : Layout). joint_of problem.topology x.first) c.in_ok-x.ensures in
    carried c.mode-mode.result problem.topology.mode c.deref.result.now (joint_of problem.topology c.args.first) (file_of c.f.result.now) problem.f
    c.mode-mode.ensures.mode codes c.f.ensures
    (has-letters problem.topology c.args.first (grounds problem built) problem.f (λ is. (files-joint problem built is).0))

pub of-requires-2-clause-there : goal.of-requires-2-clause-there
of-requires-2-clause-there c =
    let problem = c.args.problem.now in
    let built = c.mode-mode.ensures.built in
    let codes = c.deref-2.ensures.value ∙ c.in_ok-joint.ensures.codes ∙ ap (λ (x : Layout). joint_of problem.topology x.first) c.in_ok-x.ensures in
    carried c.mode-mode.result problem.topology.mode c.deref-2.result.now (joint_of problem.topology c.args.first) (file_of c.s.result.now) problem.s
    c.mode-mode.ensures.mode codes c.s.ensures
    (has-letters problem.topology c.args.first (grounds problem built) problem.s (λ is. (files-joint problem built is).1))

pub frame_of_third-requires-clause-third : goal.frame_of_third-requires-clause-third
frame_of_third-requires-clause-third c =
    let problem = c.args.problem.now in
    let built = c.mode-mode.ensures.built in
    let codes = c.deref-3.ensures.value ∙ c.in_ok-joint.ensures.codes ∙ ap (λ (x : Layout). joint_of problem.topology x.first) c.in_ok-x.ensures in
    let at = ap (λ (x : Layout). x.first) c.in_ok-x.ensures in
    let f = c.bits_of_file.ensures.bits ∙ ap file_bits c.f-2.ensures in
    let s = c.bits_of_file-2.ensures.bits ∙ ap file_bits c.s-2.ensures in
    third-fits (λ file. file_of file.now) problem.topology c.args.first (c.in_ok-joint.own + c.bits_of_file.result + c.bits_of_file-2.result) c.mode-mode.result c.deref-3.result.now c.args.third (grounds problem built)
    c.mode-mode.ensures.mode codes c.requires.third.sound c.requires.third.joint (omega (arith, c.requires.few, c.requires.low, c.in_ok-joint.ensures.behind, at, f, s))

pub returns-clause-is : goal.returns-clause-is
returns-clause-is c =
    let problem = c.args.problem.now in
    let mode = c.mode-mode.ensures.mode in
    let at = ap (λ (x : Layout). x.first) c.in_ok-x.ensures in
    let x = c.in_ok-x.ensures ∙ ap (λ scope. record { scope = scope; first = c.args.first }) c.x.ensures in
    let joint = c.in_ok-joint.ensures.codes ∙ ap (λ (x : Layout). joint_of problem.topology x.first) c.in_ok-x.ensures in
    let own : c.in_ok-joint.own ≡ c.args.first + joint_bits problem.topology = c.in_ok-joint.ensures.behind ∙ ap (λ level. level + joint_bits problem.topology) at in
    let f_bits = c.bits_of_file.ensures.bits ∙ ap file_bits c.f-2.ensures in
    let s_bits = c.bits_of_file-2.ensures.bits ∙ ap file_bits c.s-2.ensures in
    let f_codes = c.deref.ensures.value ∙ joint in
    let s_codes = c.deref-2.ensures.value ∙ joint in
    let third_codes = c.deref-3.ensures.value ∙ joint in
    let f = c.in_ok-f.ensures ∙ (λ i. file_spots (mode i) (f_codes i) (own i) (c.f.ensures i)) in
    let s = c.in_ok-s.ensures ∙ (λ i. file_spots (mode i) (s_codes i) (own i + f_bits i) (c.s.ensures i)) in
    let third = c.in_ok-third.ensures
    ∙ (λ i. option_map (λ file. file_spots (mode i) (third_codes i) (own i + f_bits i + s_bits i) (file_of file.now)) c.args.third)
    ∙ map-fused (λ file. file_of file.now) (file_spots problem.topology.mode (joint_of problem.topology c.args.first) (c.args.first + joint_bits problem.topology + file_bits problem.f + file_bits problem.s)) c.args.third in
    λ i. record { mode = mode i; x = x i; joint = joint i; f = f i; s = s i; third = third i }
