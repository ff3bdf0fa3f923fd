mod Turns
mod SoFar
mod StepLaws
mod StillToWrite
mod FrontLaws
