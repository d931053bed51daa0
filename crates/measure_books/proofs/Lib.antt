mod CountingSteps
